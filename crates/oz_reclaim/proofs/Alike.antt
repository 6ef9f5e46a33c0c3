-- The operations by which a snapshot is made change the same among rows that agree on some kinds.
use Rattle.std.proofs.Common.{◌≡◌, ℕ, ◌==◌, ◌&&◌, Bool, true, false, List, [], ◌∷◌, Option, is_some, cond, refl, sym, ◌∙◌, ap}
use mathlib.Core.Bool.{false≢true}
use Rattle.std.specs.List.{flat_map}
use Rattle.oz_effects.specs.Effects.{copied, moved, operation_changes}
use Rattle.oz_rows.specs.declared.entry.RowEntry.{RowEntry}
use Rattle.oz_rows.specs.declared.key.RowKey.{RowKey}
use Rattle.oz_rows.specs.declared.key.RowKey.TheVariants as keys
use Rattle.oz_rows.specs.declared.operation.Change.{Change}
use Rattle.oz_rows.specs.declared.operation.Operation.TheVariants.{CopyKeys, MoveDeleted}
use Rattle.oz_rows.specs.declared.row.Row.{Row}
use Rattle.oz_rows.specs.RowMaps.{KeysRise, gone, put, is_bucket, row_of}
use Rattle.oz_sound.specs.stripes.Parts.{part_of}
use Rattle.oz_sound.specs.stripes.laws.Lists.{in_part, mapped, one_list, out_of_part, part_rises}

module _ (p : RowKey → Bool) (a b : List RowEntry) (rise : KeysRise a) (rise_too : KeysRise b) (same : (q : RowKey) → p q ≡ true → row_of a q ≡ row_of b q) where
  one_part : part_of p a ≡ part_of p b
  one_part = one_list (part_of p a) (part_of p b) (part_rises p a rise) (part_rises p b rise_too) (λ q. by q (p q) refl)
    where
      by : (q : RowKey) (t : Bool) → p q ≡ t → row_of (part_of p a) q ≡ row_of (part_of p b) q
      by q true e = in_part p a q e ∙ same q e ∙ sym (in_part p b q e)
      by q false e = out_of_part p a q e ∙ sym (out_of_part p b q e)

  alike : (give : RowEntry → List Change) → ((x : RowEntry) → p x.key ≡ false → give x ≡ []) → flat_map give a ≡ flat_map give b
  alike give none = sym (mapped p give none a) ∙ ap (flat_map give) one_part ∙ mapped p give none b

abbrev is_key : RowKey → Bool
is_key (keys.Key v b k) = true
is_key key = false

abbrev is_owned : RowKey → Bool
is_owned (keys.Deleted v b o k l) = true
is_owned (keys.Renamed v b o l) = true
is_owned key = false

module _ (v b : List ℕ) (l m : List RowEntry) (rise : KeysRise l) (rise_too : KeysRise m) where
  pub copies_alike : (n : ℕ) → ((w c k : List ℕ) → row_of l (keys.Key w c k) ≡ row_of m (keys.Key w c k)) → operation_changes l (CopyKeys v b n) ≡ operation_changes m (CopyKeys v b n)
  copies_alike n same = alike is_key l m rise rise_too of_key (λ x. copied v b n x.key x.row) (λ x e. none x.key x.row e)
    where
      of_key : (q : RowKey) → is_key q ≡ true → row_of l q ≡ row_of m q
      of_key (keys.Key w c k) e = same w c k
      of_key q e = absurd (false≢true e)

      none : (key : RowKey) (row : Row) → is_key key ≡ false → copied v b n key row ≡ []
      none (keys.Key w c k) row e = absurd (false≢true (sym e))
      none key row e = refl

  module _ (from to : ℕ) (deleted : (w c k : List ℕ) (o local : ℕ) → row_of l (keys.Deleted w c o k local) ≡ row_of m (keys.Deleted w c o k local)) (renamed : (w c : List ℕ) (o local : ℕ) → row_of l (keys.Renamed w c o local) ≡ row_of m (keys.Renamed w c o local)) where
    of_owned : (q : RowKey) → is_owned q ≡ true → row_of l q ≡ row_of m q
    of_owned (keys.Deleted w c o k local) e = deleted w c k o local
    of_owned (keys.Renamed w c o local) e = renamed w c o local
    of_owned q e = absurd (false≢true e)

    none : (key : RowKey) (row : Row) → is_owned key ≡ false → moved l v b from to key row ≡ []
    none (keys.Deleted w c o k local) row e = absurd (false≢true (sym e))
    none (keys.Renamed w c o local) row e = absurd (false≢true (sym e))
    none key row e = refl

    one_move : (key : RowKey) (row : Row) → moved l v b from to key row ≡ moved m v b from to key row
    one_move (keys.Renamed w c o local) row = ap
        (λ (found : Option Row). cond (is_bucket v b w c && o == from) (gone (keys.Renamed v b from local) ∷ cond (from == 0 && is_some found) [] (put (keys.Renamed v b to local) row ∷ [])) [])
        (renamed v b to local)
    one_move key row = refl

    pub moves_alike : operation_changes l (MoveDeleted v b from to) ≡ operation_changes m (MoveDeleted v b from to)
    moves_alike = ap (λ (c : List Change). cond (from == to) [] c)
        (alike is_owned l m rise rise_too of_owned (λ x. moved l v b from to x.key x.row) (λ x e. none x.key x.row e)
        ∙ ap (λ (give : RowEntry → List Change). flat_map give m) (λ i x. one_move x.key x.row i))
