use Rattle.std.proofs.Common.{◌≡◌, ◌≤◌, ◌<◌, ◌^◌, ℕ, length, length-append, ◌+◌, ◌-◌, List, ◌∷◌, ◌++◌, drop, sym, ◌∙◌, ap, subst, arith}
use Rattle.std.proofs.lemmas.List.{drop_more, take_rest}
use Rattle.oz_journal.specs.Body.{bodies_in}
use Rattle.oz_journal.specs.Grammar.{sized, records}
use Rattle.oz_journal.specs.declared.body.Body.{Body}
use Rattle.oz_journal.proofs.Scans.{IsScanned, scanned_none, scanned_more}
use Rattle.oz_journal.proofs.scan.scan.Goals as goal

pub records-init : goal.records-init
records-init c = subst (IsScanned c.args.bytes.now c.args.bytes.now) (sym c.new-bodies.ensures.items) (scanned_none c.args.bytes.now)

pub records-preserved : goal.records-preserved
records-preserved c =
    let rest = c.records.rest.now in
    let some : 0 < length rest = grind arith in
    let first : rest ≡ 1 ∷ drop 1 rest = drop_more rest 0 0 some ∙ ap (λ (n : ℕ). n ∷ drop 1 rest) c.if-rest-eq-OPEN.true in
    let found = c.in-Some.ensures in
    let within : length rest ≤ length c.args.bytes.now = omega (arith, ap length c.records.invariant.parts, length-append (records (bodies_in c.records.bodies.items)) rest) in
    let says = c.of.ensures ∙ c.in_ok-from_slice.ensures.items in
    let body : Body = record { at = length c.args.bytes.now - length rest + 5; bytes = c.of.result } in
    let is : drop 1 rest ≡ sized body.bytes ++ c.in-Some.after.now =
    sym (take_rest rest 1) ∙ (found.1 ∙ ap (λ (l : List ℕ). sized l ++ c.in-Some.after.now) (sym says)) in
    let small : length body.bytes < 2 ^ 32 = omega (arith, found.0, ap length says) in
    subst (IsScanned c.args.bytes.now c.in-Some.after.now) (sym c.in_ok-push.ensures.items)
    (scanned_more c.args.bytes.now rest (drop 1 rest) c.in-Some.after.now c.records.bodies.items body c.records.invariant first is small (omega arith))
