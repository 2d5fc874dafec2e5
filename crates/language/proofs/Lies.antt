-- Where the bodies and the main expression lie in a program's bytes.
use Rattle.std.proofs.Common.{◌≡◌, ℕ, ◌-◌, ◌<◌, ◌≤◌, List, [], ◌∷◌, ◌++◌, length, get_or, take, drop, sym, refl, ap, ◌∙◌, subst, append_assoc, append-nil, arith, length-append}
use Rattle.std.proofs.lemmas.List.{drop_at, get_or-take, length-take-le}
use Rattle.language.specs.declared.outline.FunctionOutline.{FunctionOutline}
use Rattle.language.specs.declared.outline.Outline.{Outline}
use Rattle.language.specs.Grammar.{Encodes}
use Rattle.language.specs.Outlines.{Outlined, AllOutlined, Callable, Outlines}
use Rattle.language.specs.Syntax.{Expr, Function, Program, encode, encode_ty, encode_expr, encode_function, encode_functions, place_after, body_place, Proper, Readable, AllReadable}
use Rattle.language.proofs.ReadingFunctions.{encode_functions_append}

-- an expression lies at a place
pub record Lies (bytes : List ℕ) (place : ℕ) (e : Expr) : Type 0 where
  pub rest : List ℕ
  pub part_is : drop place bytes ≡ encode_expr e ++ rest
  pub place_is : length bytes - length (drop place bytes) ≡ place

lies : (front : List ℕ) (e : Expr) (rest bytes : List ℕ) (place : ℕ) → bytes ≡ front ++ (encode_expr e ++ rest) → length front ≡ place → Lies bytes place e
lies front e rest bytes place b n =
    let d : drop place bytes ≡ encode_expr e ++ rest = ap (drop place) b ∙ drop_at front (encode_expr e ++ rest) place n in
    record { rest = rest; part_is = d; place_is = omega (arith, ap length b, ap length d, length-append front (encode_expr e ++ rest)) }

pub body_lies : (p : Program) (before : List Function) (f : Function) (following : List Function) → p.functions ≡ before ++ (f ∷ following) → Lies (encode p) (body_place (place_after before) f) f.body
body_lies p before f following e =
    let types = encode_ty f.parameter ++ encode_ty f.result in
    let last = encode_functions following ++ encode_expr p.main in
    let fs : encode_functions p.functions ≡ encode_functions before ++ (encode_function f ++ encode_functions following) = ap encode_functions e ∙ encode_functions_append before (f ∷ following) in
    let one : encode_function f ≡ types ++ encode_expr f.body = sym (append_assoc (encode_ty f.parameter) (encode_ty f.result) (encode_expr f.body)) in
    let all : encode_functions p.functions ++ encode_expr p.main ≡ (encode_functions before ++ types) ++ (encode_expr f.body ++ last) =
    ap (λ (x : List ℕ). x ++ encode_expr p.main) (fs ∙ ap (λ (x : List ℕ). encode_functions before ++ (x ++ encode_functions following)) one)
    ∙ simp append_assoc in
    lies (length p.functions ∷ (encode_functions before ++ types)) f.body last (encode p) (body_place (place_after before) f) (ap (λ (x : List ℕ). length p.functions ∷ x) all)
    (omega (arith, length-append (encode_functions before) types, length-append (encode_ty f.parameter) (encode_ty f.result)))

pub main_lies : (p : Program) → Lies (encode p) (place_after p.functions) p.main
main_lies p =
    lies (length p.functions ∷ encode_functions p.functions) p.main [] (encode p) (place_after p.functions)
    (ap (λ (x : List ℕ). length p.functions ∷ (encode_functions p.functions ++ x)) (sym (append-nil (encode_expr p.main)))) refl

pub readable_at : (before : List Function) (f : Function) (following : List Function) → AllReadable (before ++ (f ∷ following)) → Readable f
readable_at [] f following h = h.0
readable_at (g ∷ before) f following h = readable_at before f following h.1

-- the first functions of a program, as those that may be called
pub callable_front : (os : List FunctionOutline) (fs front following : List Function) → AllOutlined os fs → fs ≡ front ++ following → length front ≤ length os → Callable (take (length front) os) front
callable_front os fs front following all e h = (
  (λ before g later none c.
      let n : length before < length front = omega (arith, ap length c, length-append before (g ∷ later)) in
      let whole : fs ≡ before ++ (g ∷ (later ++ following)) = e ∙ ap (λ (x : List Function). x ++ following) c ∙ append_assoc before (g ∷ later) following in
      subst (λ (o : FunctionOutline). Outlined (place_after before) o g) (sym (get_or-take (length front) os (length before) none n)) (all before g (later ++ following) none whole)),
  sym (length-take-le (length front) os h),
)

-- a part of a program in which an expression lies
pub record PartAt (bytes : List ℕ) (place : ℕ) (part : List ℕ) (e : Expr) : Type 0 where
  pub rest : List ℕ
  pub part_is : part ≡ encode_expr e ++ rest
  pub place_is : length bytes - length part ≡ place

part_at : {bytes bytes' part : List ℕ} {place place' : ℕ} {e : Expr} → Lies bytes' place' e → bytes ≡ bytes' → place ≡ place' → part ≡ drop place bytes → PartAt bytes place' part e
part_at {bytes} {bytes'} {part} {place} {place'} l b n d =
    let at : part ≡ drop place' bytes' = d ∙ ap (λ (k : ℕ). drop k bytes) n ∙ ap (drop place') b in
    record {
      rest = l.rest;
      part_is = at ∙ l.part_is;
      place_is = ap (λ (x : List ℕ). length x - length part) b ∙ ap (λ (x : List ℕ). length bytes' - length x) at ∙ l.place_is;
    }

-- what the code has in hand when it goes into the body of the function at a number
pub body_given : (os : List FunctionOutline) (fs before : List Function) (f : Function) (following : List Function) (number : ℕ) (o : FunctionOutline) → Callable os fs → fs ≡ before ++ (f ∷ following) → length before ≡ number → o ≡ get_or os number o → Callable (take number os) before × Outlined (place_after before) o f
body_given os fs before f following number o (all, n) cut l is = (
  subst (λ (k : ℕ). Callable (take k os) before) l (callable_front os fs before (f ∷ following) all cut (omega (arith, n, ap length cut, length-append before (f ∷ following)))),
  subst (λ (x : FunctionOutline). Outlined (place_after before) x f) (sym (is ∙ ap (λ (k : ℕ). get_or os k o) (sym l))) (all before f following o cut),
)

-- the body of a function, and the main expression
pub body_ready : (bytes : List ℕ) (p : Program) (before : List Function) (f : Function) (following : List Function) (o : FunctionOutline) (part : List ℕ) → Encodes bytes p → p.functions ≡ before ++ (f ∷ following) → Outlined (place_after before) o f → part ≡ drop o.body bytes → PartAt bytes (body_place (place_after before) f) part f.body × Proper f.body
body_ready bytes p before f following o part enc cut one d = (
  part_at (body_lies p before f following cut) enc.0 one.body_is_at d,
  (readable_at before f following (subst AllReadable cut enc.1.functions_readable)).body_proper,
)

pub main_ready : (bytes : List ℕ) (o : Outline) (p : Program) (part : List ℕ) → Encodes bytes p → Outlines o p → part ≡ drop o.main bytes → PartAt bytes (place_after p.functions) part p.main
main_ready bytes o p part enc out d = part_at (main_lies p) enc.0 out.main_is d
