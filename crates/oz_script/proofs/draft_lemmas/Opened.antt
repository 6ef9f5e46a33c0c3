-- The labels that clients have opened, one line after the other.
use Rattle.std.proofs.Common.{◌≡◌, ℕ, Bool, true, false, cond, List, [], ◌∷◌, ◌++◌, refl, sym, ap, ◌∙◌}
use Rattle.std.specs.Prelude.{◌==◌, ◌&&◌, ◌||◌, Some}
use Rattle.std.specs.BTreeMap.{is_at}
use Rattle.std.specs.BTreeSet.{BTreeSet, contains}
use Rattle.std.specs.Cmp.{unsigned_ties}
use Rattle.std.specs.Cmp.Lexicographic.{slice_cmp}
use Rattle.std.specs.List.{list_any}
use Rattle.std.specs.Ordering.{is_eq, nat_cmp, ordering_then}
use Rattle.std.specs.Str.{bytes_eq}
use Rattle.std.specs.declared.cmp.Ordering.{Ordering}
use Rattle.std.specs.declared.cmp.Ordering.TheVariants.{Less, Equal, Greater}
use Rattle.std.proofs.Math.Bool.{or-false}
use Rattle.std.proofs.lemmas.List.Folds.{list_any-append}
use Rattle.std.proofs.lemmas.Map.Text.{is_eq-slice_cmp}
use Rattle.oz_command.specs.declared.command.Command.{Command}
use Rattle.oz_script.specs.declared.draft.drafting.Entry.{Entry}
use Rattle.oz_script.specs.declared.draft.labels.OpenedLabel.{OpenedLabel}
use Rattle.oz_script.specs.draft.Drafts.{is_opened, opens}
use Rattle.oz_script.specs.draft.Tracked.{has_label, label_order}

-- the labels are those of before, and the one that the client's command opens
abbrev pub Opens : BTreeSet OpenedLabel → BTreeSet OpenedLabel → ℕ → Command → Type 0
Opens opened more client command =
    (other : ℕ) (label : List ℕ) → has_label more other label ≡ (has_label opened other label || (client == other && opens label command))

pub no_labels : (opened : BTreeSet OpenedLabel) (client : ℕ) (label : List ℕ) → opened.keys ≡ [] → has_label opened client label ≡ false
no_labels opened client label none = ap (λ (keys : List OpenedLabel). list_any (is_at (label_order (record { client = client; label = label }))) keys) none

pub labelled-more : (entries : List Entry) (entry : Entry) (opened more : BTreeSet OpenedLabel) → ((other : ℕ) (label : List ℕ) → has_label opened other label ≡ is_opened entries other (Some label))
    → Opens opened more entry.client entry.command → (other : ℕ) (label : List ℕ) → has_label more other label ≡ is_opened (entries ++ entry ∷ []) other (Some label)
labelled-more entries entry opened more labelled opened_by other label =
    let of_other : Entry → Bool = λ (e : Entry). e.client == other && opens label e.command in
    opened_by other label
    ∙ ap (λ (before : Bool). before || of_other entry) (labelled other label)
    ∙ ap (λ (last : Bool). list_any of_other entries || last) (sym (or-false (of_other entry)))
    ∙ sym (list_any-append of_other entries (entry ∷ []))

both_equal : (one other : Ordering) → is_eq (ordering_then one other) ≡ (is_eq one && is_eq other)
both_equal Less other = refl
both_equal Equal other = refl
both_equal Greater other = refl

same_label : (client other : ℕ) (label sought : List ℕ) → is_eq (ordering_then (nat_cmp client other) (slice_cmp nat_cmp label sought)) ≡ (client == other && bytes_eq label sought)
same_label client other label sought =
    both_equal (nat_cmp client other) (slice_cmp nat_cmp label sought)
    ∙ ap (λ (b : Bool). b && is_eq (slice_cmp nat_cmp label sought)) (sym (unsigned_ties client other))
    ∙ ap (λ (b : Bool). client == other && b) (is_eq-slice_cmp label sought)

taken_or : (here before : Bool) → cond here true before ≡ (before || here)
taken_or true true = refl
taken_or true false = refl
taken_or false true = refl
taken_or false false = refl

-- a set with one label more
pub noted_label : (opened more : BTreeSet OpenedLabel) (key : OpenedLabel) → ((other : OpenedLabel) → contains label_order more other ≡ cond (is_at (label_order key) other) true (contains label_order opened other))
    → (other : ℕ) (sought : List ℕ) → has_label more other sought ≡ (has_label opened other sought || (key.client == other && bytes_eq key.label sought))
noted_label opened more key updates other sought =
    updates (record { client = other; label = sought })
    ∙ taken_or (is_at (label_order key) (record { client = other; label = sought })) (has_label opened other sought)
    ∙ ap (λ (here : Bool). has_label opened other sought || here) (same_label key.client other key.label sought)
