-- Reading a whole program.
use Rattle.std.proofs.Common.{◌≡◌, ℕ, suc, ◌-◌, ◌<◌, ◌≤◌, Bool, true, false, cond, leb, ◌↔◌, List, [], ◌∷◌, ◌++◌, length, get_or, is_ok, IsErrAnd, IfOk, Ok, Err, Result, sym, refl, ap, ◌∙◌, subst, append-nil, not-suc-le-zero, arith, le-leb, leb-true}
use Rattle.std.proofs.lemmas.Bool.{false≢true}
use Rattle.std.proofs.lemmas.List.{take_rest}
use Rattle.language.specs.declared.fault.ReadFault.{ReadFault}
use Rattle.language.specs.declared.fault.ReadFault.TheVariants.{TooLong, Unknown, Trailing}
use Rattle.language.specs.declared.outline.Outline.{Outline}
use Rattle.language.specs.Outcomes.{and_then}
use Rattle.language.specs.Outlines.{Reads}
use Rattle.language.specs.Syntax.{Function, Expr, Program, encode, encode_expr, encode_functions, WithinReading}
use Rattle.language.specs.Reading.{expr_from, functions_from, closed, main_from, program_from, tree_of}
use Rattle.language.specs.Grammar.{Encodes, ReadingExact, ByGrammar}
use Rattle.language.proofs.Commands.{after}
use Rattle.language.proofs.Results.{clash, ok_same, then_at, then_ok}
use Rattle.language.proofs.Encoding.{expr_sound, expr_complete, functions_sound, functions_complete}

pub broke_reads : {out : Result Program ReadFault} (r : Result Outline ReadFault) (e : ReadFault) → IsErrAnd r (λ y. y ≡ e) → out ≡ Err e → Reads r out
broke_reads (Ok o) e h q = absurd h
broke_reads (Err fault) e h q = q ∙ ap Err (sym h)

-- a program that is not too long, and has few enough functions
pub program_begins : (s : List ℕ) → length s ≤ 4096 → 0 < length s → get_or s 0 0 ≤ 16 → tree_of s ≡ and_then (functions_from (length s) (get_or s 0 0) (after 1 s)) (λ fs. main_from (length s) fs.0 fs.1)
program_begins [] short some few = absurd (not-suc-le-zero some)
program_begins (count ∷ rest) short some few =
    rw (le-leb (suc (length rest)) 4096 short, le-leb count 16 few)
    (ap (λ (r : List ℕ). and_then (functions_from (suc (length rest)) count r) (λ fs. main_from (suc (length rest)) fs.0 fs.1)) (sym (take_rest (count ∷ rest) 1)))

pub main_begins : (w : ℕ) (fs : List Function) (bytes : List ℕ) {e : Expr} {rest : List ℕ} → expr_from w bytes ≡ Ok (e, rest) → main_from w fs bytes ≡ closed w (record { functions = fs; main = e }) rest
main_begins w fs bytes e = then_at _ e

pub closed_open : (w : ℕ) (p : Program) (rest : List ℕ) → 0 < length rest → closed w p rest ≡ Err (Trailing (w - length rest))
closed_open w p [] h = absurd (not-suc-le-zero h)
closed_open w p (b ∷ rest) h = refl

pub closed_shut : (w : ℕ) (p : Program) (rest : List ℕ) → length rest ≤ 0 → closed w p rest ≡ Ok p
closed_shut w p [] h = refl
closed_shut w p (b ∷ rest) h = absurd (not-suc-le-zero h)

-- nothing but the program's own end
closed_ok : (w : ℕ) (p q : Program) (rest : List ℕ) → closed w p rest ≡ Ok q → (rest ≡ []) × (p ≡ q)
closed_ok w p q [] h = (refl, ok_same refl h)
closed_ok w p q (b ∷ rest) h = absurd (clash refl h)

-- a test that was passed
passed : {E A : Type 0} (m n : ℕ) (x : Result A E) (fault : E) {y : A} → cond (leb m n) x (Err fault) ≡ Ok y → (m ≤ n) × (x ≡ Ok y)
passed m n x fault {y} = go (leb m n) refl
  where
    go : (b : Bool) → leb m n ≡ b → cond b x (Err fault) ≡ Ok y → (m ≤ n) × (x ≡ Ok y)
    go true e h = (leb-true m n e, h)
    go false e h = absurd (clash refl h)

program_sound : (w : ℕ) (bytes : List ℕ) (p : Program) → length bytes ≤ 4096 → program_from w bytes ≡ Ok p → (bytes ≡ encode p) × WithinReading p
program_sound w [] p short h = absurd (clash refl h)
program_sound w (count ∷ rest) p short h =
    let few = passed count 16 (and_then (functions_from w count rest) (λ fs. main_from w fs.0 fs.1)) (Unknown 0) h in
    let a = then_ok (functions_from w count rest) (λ fs. main_from w fs.0 fs.1) few.1 in
    let b = then_ok (expr_from w a.0.1) (λ e. closed w (record { functions = a.0.0; main = e.0 }) e.1) a.2 in
    let c = closed_ok w (record { functions = a.0.0; main = b.0.0 }) p b.0.1 b.2 in
    let f = functions_sound w count rest a.0 a.1 in
    let m = expr_sound w a.0.1 b.0 b.1 in
    let bytes : count ∷ rest ≡ encode (record { functions = a.0.0; main = b.0.0 }) =
    ap (λ (n : ℕ). n ∷ rest) (sym f.2)
    ∙ ap (λ (r : List ℕ). length a.0.0 ∷ r) (f.0 ∙ ap (λ (r : List ℕ). encode_functions a.0.0 ++ r) (m.0 ∙ ap (λ (r : List ℕ). encode_expr b.0.0 ++ r) c.0 ∙ append-nil (encode_expr b.0.0))) in
    subst (λ (q : Program). (count ∷ rest ≡ encode q) × WithinReading q) c.1 (
      bytes,
      record {
        bytes = subst (λ (l : List ℕ). length l ≤ 4096) bytes short;
        count = omega (arith, f.2, few.0);
        functions_readable = f.1;
        main_proper = m.1;
      },
    )

program_complete : (w : ℕ) (p : Program) → WithinReading p → program_from w (encode p) ≡ Ok p
program_complete w p h =
    ap (λ (b : Bool). cond b (and_then (functions_from w (length p.functions) (encode_functions p.functions ++ encode_expr p.main)) (λ fs. main_from w fs.0 fs.1)) (Err (Unknown 0))) (le-leb (length p.functions) 16 h.count)
    ∙ then_at (λ fs. main_from w fs.0 fs.1) (functions_complete w p.functions (encode_expr p.main) h.functions_readable)
    ∙ then_at (λ e. closed w (record { functions = p.functions; main = e.0 }) e.1) (ap (expr_from w) (sym (append-nil (encode_expr p.main))) ∙ expr_complete w p.main [] h.main_proper)

tree_sound : (bytes : List ℕ) (p : Program) → tree_of bytes ≡ Ok p → (bytes ≡ encode p) × WithinReading p
tree_sound bytes p h = let s = passed (length bytes) 4096 (program_from (length bytes) bytes) TooLong h in program_sound (length bytes) bytes p s.0 s.1

tree_complete : (p : Program) → WithinReading p → tree_of (encode p) ≡ Ok p
tree_complete p h =
    ap (λ (b : Bool). cond b (program_from (length (encode p)) (encode p)) (Err TooLong)) (le-leb (length (encode p)) 4096 h.bytes)
    ∙ program_complete (length (encode p)) p h

pub reading_exact : ReadingExact
reading_exact bytes p = (tree_sound bytes p, λ k. ap tree_of k.0 ∙ tree_complete p k.1)

-- what is accepted by reading, in the grammar's words
pub by_grammar : {A E : Type 0} (bytes : List ℕ) (r : Result A E) → ((is_ok r ≡ true) ↔ ((p : Program) × (tree_of bytes ≡ Ok p))) → ByGrammar bytes r
by_grammar bytes r h = record {
  accepted = (λ k. let x = h.0 k in (x.0, tree_sound bytes x.0 x.1), λ x. h.1 (x.0, ap tree_of x.1.0 ∙ tree_complete x.0 x.1.1));
  only_one = λ p q x y. ok_same (ap tree_of x.0 ∙ tree_complete p x.1) (ap tree_of y.0 ∙ tree_complete q y.1);
}

-- bytes that encode a program are few
pub encoded_short : {bytes : List ℕ} {p : Program} → Encodes bytes p → length bytes ≤ 4096
encoded_short e = omega (arith, ap length e.0, e.1.bytes)

-- the clauses of reading
abbrev pub ReadsWell : (bytes : List ℕ) → Result Outline ReadFault → Type 0
ReadsWell bytes r = record { exact : Reads r (tree_of bytes); grammar : ByGrammar bytes r; within : IfOk r (λ _. length bytes ≤ 4096) }

pub reads_well : (bytes : List ℕ) (r : Result Outline ReadFault) → Reads r (tree_of bytes) → ReadsWell bytes r
reads_well bytes (Ok o) h = record { exact = h; grammar = by_grammar bytes (Ok o) (λ _. (h.0, h.1), λ _. refl); within = encoded_short (tree_sound bytes h.0 h.1) }
reads_well bytes (Err fault) h = record { exact = h; grammar = by_grammar bytes (Err fault) (λ e. absurd (false≢true e), λ x. absurd (clash h x.1)); within = tt }
