-- The loop over the lines of a text.
use Rattle.std.proofs.Common.{◌≡◌, ℕ, ◌+◌, ◌<◌, ◌≤◌, List, [], ◌∷◌, length, get_or, Result, Ok, Err, refl, sym, ap, ◌∙◌, arith}
use Rattle.std.specs.BTreeSet.{BTreeSet}
use Rattle.std.specs.Str.Lines.{lines}
use Rattle.std.proofs.lemmas.Bool.{lt-ltb, le-ltb}
use Rattle.oz_script.specs.declared.draft.drafting.Draft.{Draft}
use Rattle.oz_script.specs.declared.draft.fault.Cause.TheVariants.{Long}
use Rattle.oz_script.specs.declared.draft.fault.ScriptFault.{ScriptFault}
use Rattle.oz_script.specs.declared.draft.fault.ScriptFault.TheVariants.{At, OutOfMemory}
use Rattle.oz_script.specs.declared.draft.labels.OpenedLabel.{OpenedLabel}
use Rattle.oz_script.specs.draft.Drafts.{◌>>=◌, Fails, draft_of, with_line, with_lines}
use Rattle.oz_script.specs.draft.Tracked.{IsTracked}
use Rattle.oz_script.proofs.draft_lemmas.Opened.{no_labels}

-- what was read so far, and what is left
pub record IsReadTo (bytes : List ℕ) (draft : Draft) (counts : List ℕ) (opened : BTreeSet OpenedLabel) (place : ℕ) (rest : List ℕ) : Type 0 where
  pub goes_on : with_lines draft place (lines rest) ≡ draft_of bytes
  pub in_range : place + length rest ≤ length bytes + 1
  pub tracked : IsTracked draft counts opened

no_counts : (k : ℕ) → let none : List ℕ = [] in get_or none k 0 ≡ 0
no_counts k = refl

pub begins : (bytes : List ℕ) (opened : BTreeSet OpenedLabel) → opened.keys ≡ [] → length bytes ≤ 1048576 → IsReadTo bytes (record { clients = []; entries = [] }) [] opened 1 bytes
unfolding draft_of
begins bytes opened none short = record {
  goes_on = rw (le-ltb 1048576 (length bytes) short) refl;
  in_range = omega arith;
  tracked = record { long = refl; few = omega arith; counted = λ k. no_counts k; labelled = λ client label. no_labels opened client label none };
}

pub goes_on : (bytes : List ℕ) (draft next : Draft) (counts counts_after : List ℕ) (opened opened_after : BTreeSet OpenedLabel) (place : ℕ) (rest line behind : List ℕ) → IsReadTo bytes draft counts opened place rest → lines rest ≡ line ∷ lines behind → length behind < length rest
    → with_line draft place line ≡ Ok next → IsTracked next counts_after opened_after → IsReadTo bytes next counts_after opened_after (place + 1) behind
unfolding with_lines
goes_on bytes draft next counts counts_after opened opened_after place rest line behind r parts shorter e tracked = record {
  goes_on = sym (ap (λ (given : Result Draft ScriptFault). given >>= λ more. with_lines more (place + 1) (lines behind)) e) ∙ sym (ap (with_lines draft place) parts) ∙ r.goes_on;
  in_range = omega (arith, r.in_range);
  tracked = tracked;
}

pub ends : (bytes : List ℕ) (draft : Draft) (counts : List ℕ) (opened : BTreeSet OpenedLabel) (place : ℕ) (rest : List ℕ) → IsReadTo bytes draft counts opened place rest → rest ≡ [] → draft_of bytes ≡ Ok draft
unfolding with_lines
ends bytes draft counts opened place rest r none = sym r.goes_on ∙ ap (λ (left : List ℕ). with_lines draft place (lines left)) none

pub fails : (fault : ScriptFault) (bytes : List ℕ) (draft : Draft) (counts : List ℕ) (opened : BTreeSet OpenedLabel) (place : ℕ) (rest line behind : List ℕ) → IsReadTo bytes draft counts opened place rest → lines rest ≡ line ∷ lines behind
    → Fails fault (with_line draft place line) → Fails fault (draft_of bytes)
unfolding with_lines
fails (At n cause) bytes draft counts opened place rest line behind r parts e =
    sym r.goes_on ∙ ap (with_lines draft place) parts ∙ ap (λ (given : Result Draft ScriptFault). given >>= λ more. with_lines more (place + 1) (lines behind)) e
fails OutOfMemory bytes draft counts opened place rest line behind r parts e = tt

pub too_long : (bytes : List ℕ) → 1048576 < length bytes → draft_of bytes ≡ Err (At 0 Long)
unfolding draft_of
too_long bytes long = rw (lt-ltb 1048576 (length bytes) long) refl
