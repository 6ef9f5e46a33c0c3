-- Rows in which names are noted: their batch, and what stays as they come.
use Rattle.std.proofs.Common.{◌≡◌, ◌≢◌, ◌≤◌, ◌+◌, ◌*◌, inl, inr, ℕ, Bool, true, false, List, [], ◌∷◌, length, Option, IsSome, is_some, cond, refl, sym, ◌∙◌, ap, subst, arith}
use mathlib.Core.Bool.{false≢true}
use Rattle.std.specs.List.{AllByRecursion}
use Rattle.oz_decision.specs.Meets.{AreInGrammar, Stand}
use Rattle.oz_decision.specs.laws.OneRow.{put_is_safe, alone_is_short}
use Rattle.oz_fields.specs.declared.block.Block.{Block}
use Rattle.oz_namespace.specs.declared.namespace.Namespace.{Namespace}
use Rattle.oz_om_key.specs.om_change.Noting.{is_wanted, note, noted}
use Rattle.oz_om_key.specs.om_change.Numbers.{MayBeNoted}
use Rattle.oz_reclaim.specs.Moves.{DeletedMove}
use Rattle.oz_reclaim.specs.Renames.{NamesNoted}
use Rattle.oz_reclaim.specs.laws.Moving.{keeps, sound_now, stands_on}
use Rattle.oz_reclaim.specs.laws.Renames.{noting_moves}
use Rattle.oz_rows.specs.declared.key.RowKey.{RowKey}
use Rattle.oz_rows.specs.declared.key.RowKey.TheVariants as keys
use Rattle.oz_rows.specs.declared.operation.Change.{Change}
use Rattle.oz_rows.specs.declared.operation.Operation.TheVariants.{Put}
use Rattle.oz_rows.specs.declared.row.Row.TheVariants as rows
use Rattle.oz_rows.specs.RowMaps.{Rows, after_changes}
use Rattle.oz_rows.specs.Rows.{kind_of}
use Rattle.oz_sound.specs.Kept.{KeepsBlocks}
use Rattle.oz_sound.specs.Sound.{IsSoundButRenames}
use Rattle.oz_om_key.proofs.om_change_lemmas.Batches.{Follows, joined, nothing_follows, untouched}
use Rattle.oz_om_key.proofs.om_change_lemmas.Noted.{IsNoted, begins, notes_all, noting}

module _ (all : Rows) (v b k numbers : List ℕ) where
  abbrev notes : List Block → List Change
  notes blocks = noted all v b k numbers blocks

  note_follows : (now : Rows) (block : Block) → MayBeNoted v b k block → Follows now (note v b k block ∷ []) 6304
  note_follows now block fits = record {
    safe = λ fit. put_is_safe now fit (keys.Renamed v b 0 block.local) (rows.Renamed k) fits (λ base e. absurd (false≢true (ap is_some e)));
    short = alone_is_short (Put (keys.Renamed v b 0 block.local) (rows.Renamed k)) fits;
  }

  -- so many blocks have no more bytes noted
  pub notes_follow : (now : Rows) (blocks : List Block) → length blocks ≤ 256 → AllByRecursion (MayBeNoted v b k) blocks → Follows now (notes blocks) (length blocks * 6304)
  notes_follow now [] few fits = nothing_follows now 0
  notes_follow now (block ∷ blocks) few fits = subst (λ (l : List Change). Follows now l (length (block ∷ blocks) * 6304)) (sym (begins all v b k numbers block blocks)) (by (is_wanted all v b k numbers block) (λ then. notes_follow then blocks (omega (arith, few)) fits.1))
    where
      more : Follows now (notes blocks) (length blocks * 6304) → Follows now (notes blocks) (length (block ∷ blocks) * 6304)
      more rest = record { safe = rest.safe; short = let short = rest.short in omega (arith, short) }

      larger : Follows now (note v b k block ∷ notes blocks) (6304 + length blocks * 6304) → Follows now (note v b k block ∷ notes blocks) (length (block ∷ blocks) * 6304)
      larger whole = record { safe = whole.safe; short = let short = whole.short in omega (arith, short) }

      by : (t : Bool) → ((then : Rows) → Follows then (notes blocks) (length blocks * 6304)) → Follows now (cond t (note v b k block ∷ notes blocks) (notes blocks)) (length (block ∷ blocks) * 6304)
      by true rest = larger (joined now (note v b k block ∷ []) (notes blocks) 6304 (length blocks * 6304) (omega (arith, few)) (note_follows now block fits.0)
          (rest (after_changes (note v b k block ∷ []) now)))
      by false rest = more (rest now)

  -- ---- what stays

  module _ (mid : Rows) (blocks : List Block) where
    abbrev now : Rows
    now = after_changes (notes blocks) mid

    pub other_kinds : (place : RowKey) → kind_of place ≢ 8 → now place ≡ mid place
    other_kinds (keys.Volume w) kind = untouched (notes blocks) (keys.Volume w) (notes_all all v b k numbers _ (λ l row. refl) blocks) (mid (keys.Volume w))
    other_kinds (keys.Bucket w c) kind = untouched (notes blocks) (keys.Bucket w c) (notes_all all v b k numbers _ (λ l row. refl) blocks) (mid (keys.Bucket w c))
    other_kinds (keys.Key w c q) kind = untouched (notes blocks) (keys.Key w c q) (notes_all all v b k numbers _ (λ l row. refl) blocks) (mid (keys.Key w c q))
    other_kinds (keys.Open w c q m) kind = untouched (notes blocks) (keys.Open w c q m) (notes_all all v b k numbers _ (λ l row. refl) blocks) (mid (keys.Open w c q m))
    other_kinds (keys.Deleted w c o q l) kind = untouched (notes blocks) (keys.Deleted w c o q l) (notes_all all v b k numbers _ (λ l row. refl) blocks) (mid (keys.Deleted w c o q l))
    other_kinds (keys.Snapshot w c m) kind = untouched (notes blocks) (keys.Snapshot w c m) (notes_all all v b k numbers _ (λ l row. refl) blocks) (mid (keys.Snapshot w c m))
    other_kinds (keys.SnapshotKey w c m q) kind = untouched (notes blocks) (keys.SnapshotKey w c m q) (notes_all all v b k numbers _ (λ l row. refl) blocks) (mid (keys.SnapshotKey w c m q))
    other_kinds (keys.Renamed w c o l) kind = absurd (kind refl)
    other_kinds (keys.Stripe s) kind = untouched (notes blocks) (keys.Stripe s) (notes_all all v b k numbers _ (λ l row. refl) blocks) (mid (keys.Stripe s))

    names_noted : NamesNoted mid now
    names_noted = record {
      others = other_kinds;
      owners = λ w c o l some. elim (noting all v b k numbers blocks (keys.Renamed w c o l) (mid (keys.Renamed w c o l))) [
        | inl same ↦ inl (subst IsSome same some)
        | inr found ↦ inr (its_owner w c o l found.0)
      ];
    }
      where
        its_owner : (w c : List ℕ) (o l : ℕ) → IsNoted all v b k numbers (keys.Renamed w c o l) blocks → o ≡ 0
        its_owner w c o l found = let place = found.its_place in cc

    module _ (sound : IsSoundButRenames mid) where
      moves : DeletedMove mid now
      moves = noting_moves mid now names_noted sound

      pub still_sound : AreInGrammar now → IsSoundButRenames now
      still_sound fit = sound_now mid now moves fit sound

      pub still_stands : (namespace : Namespace) → Stand IsSoundButRenames mid namespace → AreInGrammar now → Stand IsSoundButRenames now namespace
      still_stands namespace stand fit = record {
        fit = fit;
        stands = stands_on mid now moves (λ w c n live. (live.0, live.1, other_kinds (keys.Snapshot w c n) (λ e. omega (arith, e)) ∙ live.2)) namespace stand.stands;
        sound = still_sound fit;
      }

      pub none_moves : (granted : Option Block) (MayGo : Block → Type 0) → KeepsBlocks mid now granted MayGo
      none_moves granted MayGo = keeps mid now moves granted MayGo (λ w c q o l row block there has. inl (o, other_kinds (keys.Deleted w c o q l) (λ e. omega (arith, e)) ∙ there))
