-- One note after another.
use Rattle.std.proofs.Common.{◌≡◌, ℕ, ◌+◌, ◌<◌, ◌≤◌, nat_le, Bool, true, false, ◌||◌, List, [], ◌∷◌, ◌++◌, length, get_or, take, map, cond, refl, sym, ◌∙◌, ap, append-nil, arith}
use Rattle.std.proofs.lemmas.Bool.Decides.{nat_tests}
use Rattle.std.proofs.lemmas.List.{take_more}
use Rattle.std.proofs.lemmas.List.Elements.{filter-append}
use Rattle.std.proofs.lemmas.List.Folds.{list_any-append, list_any-from_Any}
use Rattle.oz_reclaim.specs.declared.sweep.notes.Note.{Note}
use Rattle.oz_reclaim.specs.sweep.Notes.{dated, is_snapshot_of, names, touches, up_to}
use Rattle.oz_reclaim.proofs.sweep_lemmas.History.{in_filter}
use Rattle.oz_rows.specs.declared.key.RowKey.{RowKey}
use Rattle.oz_rows.specs.RowMaps.{is_same}

not_above : (n m : ℕ) → n ≤ m → nat_le n m ≡ true
not_above n m e = grind (arith, nat_tests, e)

above : (n m : ℕ) → m < n → nat_le n m ≡ false
above n m e = grind (arith, nat_tests, e)

or_none : (t : Bool) → (t || false) ≡ t
or_none true = refl
or_none false = refl

module _ (upto : ℕ) (notes : List Note) (i : ℕ) (note : Note) (within : i < length notes) (is : note ≡ get_or notes i note) where
  more : up_to upto (take (i + 1) notes) ≡ up_to upto (take i notes) ++ up_to upto (note ∷ [])
  more = ap (up_to upto) (take_more notes i note within ∙ ap (λ (x : Note). take i notes ++ x ∷ []) (sym is)) ∙ filter-append (λ (n : Note). nat_le n.index upto) (take i notes) (note ∷ [])

  pub one_more : note.index ≤ upto → up_to upto (take (i + 1) notes) ≡ up_to upto (take i notes) ++ note ∷ []
  one_more le = more ∙ ap (λ (t : Bool). up_to upto (take i notes) ++ cond t (note ∷ []) []) (not_above note.index upto le)

  pub passed_over : upto < note.index → up_to upto (take (i + 1) notes) ≡ up_to upto (take i notes)
  passed_over lt = more ∙ ap (λ (t : Bool). up_to upto (take i notes) ++ cond t (note ∷ []) []) (above note.index upto lt) ∙ append-nil (up_to upto (take i notes))

-- what notes name with one more
pub names_more : (notes : List Note) (note : Note) (key : RowKey) → names (notes ++ note ∷ []) key ≡ (names notes key || is_same note.key key)
names_more notes note key = list_any-append (λ (n : Note). is_same n.key key) notes (note ∷ []) ∙ ap (λ (t : Bool). names notes key || t) (or_none (is_same note.key key))

pub touches_more : (notes : List Note) (note : Note) (volume bucket : List ℕ) → touches (notes ++ note ∷ []) volume bucket ≡ (touches notes volume bucket || is_snapshot_of volume bucket note.key)
touches_more notes note volume bucket = list_any-append (λ (n : Note). is_snapshot_of volume bucket n.key) notes (note ∷ []) ∙ ap (λ (t : Bool). touches notes volume bucket || t) (or_none (is_snapshot_of volume bucket note.key))

-- notes under a later index
none_up_to : (upto index : ℕ) (notes : List Note) → upto < index → up_to upto (map (dated index) notes) ≡ []
none_up_to upto index [] lt = refl
none_up_to upto index (note ∷ notes) lt = ap (λ (t : Bool). cond t (dated index note ∷ up_to upto (map (dated index) notes)) (up_to upto (map (dated index) notes))) (above index upto lt) ∙ none_up_to upto index notes lt

pub later_added : (upto index : ℕ) (notes ready : List Note) → upto < index → up_to upto (notes ++ map (dated index) ready) ≡ up_to upto notes
later_added upto index notes ready lt =
    filter-append (λ (n : Note). nat_le n.index upto) notes (map (dated index) ready)
    ∙ ap (λ (l : List Note). up_to upto notes ++ l) (none_up_to upto index ready lt)
    ∙ append-nil (up_to upto notes)

-- a note of a snapshot of the bucket is among those up to its index
pub touched_by : (upto : ℕ) (notes : List Note) (i : ℕ) (note : Note) (volume bucket : List ℕ) → i < length notes → note ≡ get_or notes i note → note.index ≤ upto
    → is_snapshot_of volume bucket note.key ≡ true → touches (up_to upto notes) volume bucket ≡ true
touched_by upto notes i note volume bucket within is le of =
    let there = in_filter (λ (n : Note). nat_le n.index upto) notes note (i, within, sym is) (not_above note.index upto le) in
    list_any-from_Any (λ (n : Note). is_snapshot_of volume bucket n.key) (up_to upto notes) (there.0, note, there.1, there.2, of)
