-- The lines that lines wait for, one after the other.
use Rattle.std.proofs.Common.{◌≡◌, ℕ, suc, ◌+◌, ◌<◌, ◌≤◌, Bool, true, false, cond, List, [], ◌∷◌, ◌++◌, length, get_or, drop, Result, Ok, Err, Option, Some, None, refl, sym, ap, ◌∙◌, append_assoc, add-one, arith}
use Rattle.std.specs.Prelude.{nat_le, ◌&&◌}
use Rattle.std.specs.BTreeSet.{BTreeSet}
use Rattle.std.proofs.lemmas.Bool.{lt-leb, and_left, and_right}
use Rattle.std.proofs.lemmas.List.{append-nil, drop_all}
use Rattle.std.proofs.Math.Seq.{drop-cons}
use Rattle.oz_script.specs.declared.draft.drafting.Draft.{Draft}
use Rattle.oz_script.specs.declared.draft.drafting.Entry.{Entry}
use Rattle.oz_script.specs.declared.draft.fault.ScriptFault.{ScriptFault}
use Rattle.oz_script.specs.declared.draft.fault.ScriptFault.TheVariants.{At, OutOfMemory}
use Rattle.oz_script.specs.declared.draft.labels.OpenedLabel.{OpenedLabel}
use Rattle.oz_script.specs.draft.Drafts.{◌>>=◌, Fails, client_place, count_in}
use Rattle.oz_script.specs.placed.Placed.{after_of, afters_of, line_named}
use Rattle.oz_script.specs.draft.Tracked.{IsTracked}

abbrev Place : Type 0
Place = Option (ℕ × ℕ)

abbrev then_more : List Place → Result (List Place) ScriptFault → Result (List Place) ScriptFault
then_more so_far rest = rest >>= λ more. Ok (so_far ++ more)

pub nothing_before : (rest : Result (List Place) ScriptFault) → then_more [] rest ≡ rest
nothing_before (Ok more) = refl
nothing_before (Err fault) = refl

one_before : (so_far : List Place) (after : Place) (rest : Result (List Place) ScriptFault)
    → then_more so_far (rest >>= λ more. Ok (after ∷ more)) ≡ then_more (so_far ++ after ∷ []) rest
one_before so_far after (Ok more) = ap (λ (l : List Place). let r : Result (List Place) ScriptFault = Ok l in r) (sym (append_assoc so_far (after ∷ []) more))
one_before so_far after (Err fault) = refl

front : (draft : Draft) (entry : Entry) (rest : List Entry) (after : Place) → after_of draft entry ≡ Ok after
    → afters_of draft (entry ∷ rest) ≡ (afters_of draft rest >>= λ more. Ok (after ∷ more))
unfolding afters_of
front draft entry rest after e =
    ap (λ (given : Result Place ScriptFault). given >>= λ found. afters_of draft rest >>= λ more. Ok (found ∷ more)) e

cut : (entries : List Entry) (i : ℕ) (entry : Entry) → i < length entries → entry ≡ get_or entries i entry → drop i entries ≡ entry ∷ drop (i + 1) entries
cut entries i entry lt is = drop-cons entries i entry lt ∙ rw (add-one) (ap (λ (first : Entry). first ∷ drop (suc i) entries) (sym is))

pub goes_on : (draft : Draft) (entries : List Entry) (i : ℕ) (entry : Entry) (after : Place) (so_far later : List Place) (whole : Result (List Place) ScriptFault) → i < length entries → entry ≡ get_or entries i entry
    → after_of draft entry ≡ Ok after → later ≡ so_far ++ after ∷ [] → then_more so_far (afters_of draft (drop i entries)) ≡ whole
    → then_more later (afters_of draft (drop (i + 1) entries)) ≡ whole
goes_on draft entries i entry after so_far later whole lt is e longer before =
    ap (λ (l : List Place). then_more l (afters_of draft (drop (i + 1) entries))) longer
    ∙ sym (one_before so_far after (afters_of draft (drop (i + 1) entries)))
    ∙ sym (ap (then_more so_far) (ap (afters_of draft) (cut entries i entry lt is) ∙ front draft entry (drop (i + 1) entries) after e))
    ∙ before

fault_front : (draft : Draft) (entry : Entry) (rest : List Entry) (fault : ScriptFault) → after_of draft entry ≡ Err fault → afters_of draft (entry ∷ rest) ≡ Err fault
unfolding afters_of
fault_front draft entry rest fault e =
    ap (λ (given : Result Place ScriptFault). given >>= λ found. afters_of draft rest >>= λ more. Ok (found ∷ more)) e

pub fails : (fault : ScriptFault) (draft : Draft) (entries : List Entry) (i : ℕ) (entry : Entry) (so_far : List Place) (whole : Result (List Place) ScriptFault) → i < length entries → entry ≡ get_or entries i entry
    → Fails fault (after_of draft entry) → then_more so_far (afters_of draft (drop i entries)) ≡ whole → Fails fault whole
fails (At line cause) draft entries i entry so_far whole lt is e before =
    sym before ∙ ap (then_more so_far) (ap (afters_of draft) (cut entries i entry lt is) ∙ fault_front draft entry (drop (i + 1) entries) (At line cause) e)
fails OutOfMemory draft entries i entry so_far whole lt is e before = tt

pub ends : (draft : Draft) (entries : List Entry) (i : ℕ) (so_far : List Place) (whole : Result (List Place) ScriptFault) → length entries ≤ i
    → then_more so_far (afters_of draft (drop i entries)) ≡ whole → whole ≡ Ok so_far
unfolding afters_of
ends draft entries i so_far whole past before =
    sym before ∙ ap (λ (l : List Entry). then_more so_far (afters_of draft l)) (drop_all i entries past)
    ∙ ap (λ (l : List Place). let r : Result (List Place) ScriptFault = Ok l in r) (append-nil so_far)

refused : (test : Bool) (x : Place) → test ≡ false → cond test x None ≡ None
refused true x e = absurd cc
refused false x e = refl

-- a number beyond the client's lines names none
pub not_named : (draft : Draft) (counts : List ℕ) (opened : BTreeSet OpenedLabel) (name : List ℕ) (number place : ℕ) → IsTracked draft counts opened → place ≡ client_place draft.clients name → get_or counts place 0 < number
    → None ≡ line_named draft name number
not_named draft counts opened name number place t is lt =
    let few : count_in draft.entries (client_place draft.clients name + 1) < number =
    omega (arith, lt, t.counted place, ap (λ (n : ℕ). count_in draft.entries (n + 1)) is) in
    sym (refused (nat_le 1 number && nat_le number (count_in draft.entries (client_place draft.clients name + 1))) (Some (client_place draft.clients name + 1, number))
    (and_right (nat_le 1 number) (nat_le number (count_in draft.entries (client_place draft.clients name + 1))) (lt-leb number (count_in draft.entries (client_place draft.clients name + 1)) few)))

pub no_number : (draft : Draft) (name : List ℕ) (number : ℕ) → number < 1 → None ≡ line_named draft name number
no_number draft name number lt =
    sym (refused (nat_le 1 number && nat_le number (count_in draft.entries (client_place draft.clients name + 1))) (Some (client_place draft.clients name + 1, number))
    (and_left (nat_le 1 number) (nat_le number (count_in draft.entries (client_place draft.clients name + 1))) (lt-leb 1 number lt)))
