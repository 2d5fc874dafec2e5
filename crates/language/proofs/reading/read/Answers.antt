use Rattle.std.proofs.Common.{◌≡◌, ℕ, ◌-◌, ◌<◌, ◌≤◌, List, length, get_or, drop, Ok, Err, sym, ap, ◌∙◌, arith, length-append, rules}
use Rattle.language.specs.declared.fault.ReadFault.TheVariants.{Trailing}
use Rattle.std.proofs.lemmas.List.{take_rest}
use Rattle.language.specs.Syntax.{Function, Program, encode_functions}
use Rattle.language.specs.Reading.{Read, expr_from, functions_from, main_from, tree_of}
use Rattle.language.proofs.Commands.{after, length_after}
use Rattle.language.proofs.Results.{then_at, then_err, at_whole}
use Rattle.language.proofs.Encoding.{functions_sound}
use Rattle.language.proofs.ReadingPrograms.{broke_reads, reads_well, program_begins, main_begins, closed_open, closed_shut}
use Rattle.language.proofs.reading.read.Goals as goal

-- the functions behind the first byte
read_behind : (s part : List ℕ) (w : ℕ) {out : Read (List Function)} → part ≡ drop 1 s → w ≡ length s → functions_from w (get_or s 0 0) part ≡ out → functions_from (length s) (get_or s 0 0) (after 1 s) ≡ out
read_behind s part w d n e = ap (functions_from (length s) (get_or s 0 0)) (take_rest s 1 ∙ sym d) ∙ at_whole (λ v. functions_from v (get_or s 0 0) part) n e

-- what was read of a program that begins well
began : (s : List ℕ) (fs : List Function) (rest part : List ℕ) (w : ℕ) → length s ≤ 4096 → 0 < length s → get_or s 0 0 ≤ 16 → part ≡ drop 1 s → w ≡ length s → functions_from w (get_or s 0 0) part ≡ Ok (fs, rest) → tree_of s ≡ main_from (length s) fs rest
began s fs rest part w short some few d n e =
    program_begins s short some few
    ∙ then_at (λ fs. main_from (length s) fs.0 fs.1) (read_behind s part w d n e)

pub returns-in_err-functions : goal.returns-in_err-functions
returns-in_err-functions c =
    let s = c.args.program.now in
    reads_well s c.from_residual.result (broke_reads c.from_residual.result _ c.from_residual.ensures.1
    (program_begins s (search rules) (search rules) (search rules) ∙ then_err _ (read_behind s c.of.result.bytes.now c.of.result.whole c.of.ensures.bytes c.of.ensures.whole c.in_err-functions.ensures.gives)))

pub returns-in_err-rest : goal.returns-in_err-rest
returns-in_err-rest c =
    let s = c.args.program.now in
    let fs = c.in_ok-functions.ensures.gives in
    reads_well s c.from_residual-in_err-rest.result (broke_reads c.from_residual-in_err-rest.result _ c.from_residual-in_err-rest.ensures.1
    (began s fs.0 c.in_ok-functions.rest.bytes.now c.of.result.bytes.now c.of.result.whole (search rules) (search rules) (search rules) c.of.ensures.bytes c.of.ensures.whole fs.2
    ∙ then_err _ (at_whole (λ v. expr_from v c.in_ok-functions.rest.bytes.now) (fs.3 ∙ c.of.ensures.whole) c.in_err-rest.ensures.gives)))

pub returns-then-not-is_empty : goal.returns-then-not-is_empty
returns-then-not-is_empty c =
    let s = c.args.program.now in
    let w = length s in
    let fs = c.in_ok-functions.ensures.gives in
    let e = c.in_ok-rest.ensures.gives in
    let n = fs.3 ∙ c.of.ensures.whole in
    reads_well s (Err (Trailing c.place.result))
    (began s fs.0 c.in_ok-functions.rest.bytes.now c.of.result.bytes.now c.of.result.whole (search rules) (search rules) (search rules) c.of.ensures.bytes c.of.ensures.whole fs.2
    ∙ main_begins w fs.0 c.in_ok-functions.rest.bytes.now (at_whole (λ v. expr_from v c.in_ok-functions.rest.bytes.now) n e.1)
    ∙ closed_open w (record { functions = fs.0; main = e.0 }) c.in_ok-rest.rest.bytes.now (search rules)
    ∙ ap (λ (k : ℕ). Err (Trailing k)) (sym (c.place.ensures ∙ ap (λ (v : ℕ). v - length c.in_ok-rest.rest.bytes.now) (e.2 ∙ n))))

pub returns : goal.returns
returns c =
    let s = c.args.program.now in
    let fs = c.in_ok-functions.ensures.gives in
    let e = c.in_ok-rest.ensures.gives in
    let n = fs.3 ∙ c.of.ensures.whole in
    let p : Program = record { functions = fs.0; main = e.0 } in
    let some : 0 < length s = search rules in
    let read = read_behind s c.of.result.bytes.now c.of.result.whole c.of.ensures.bytes c.of.ensures.whole fs.2 in
    let f = functions_sound (length s) (get_or s 0 0) (after 1 s) (fs.0, c.in_ok-functions.rest.bytes.now) read in
    let tree =
    began s fs.0 c.in_ok-functions.rest.bytes.now c.of.result.bytes.now c.of.result.whole (search rules) some (search rules) c.of.ensures.bytes c.of.ensures.whole fs.2
    ∙ main_begins (length s) fs.0 c.in_ok-functions.rest.bytes.now (at_whole (λ v. expr_from v c.in_ok-functions.rest.bytes.now) n e.1)
    ∙ closed_shut (length s) p c.in_ok-rest.rest.bytes.now (search rules) in
    reads_well s (Ok _) (
      p,
      tree,
      record {
        functions_are = (fs.1.0, fs.1.1);
        main_is = omega (arith, ap length f.0, length-append (encode_functions fs.0) c.in_ok-functions.rest.bytes.now, length_after 1 s, some, c.place-main.ensures, n);
      },
    )
