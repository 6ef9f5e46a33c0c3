-- What another name for a key does to the rows, and to the namespace for which they stand.
use Rattle.std.proofs.Common.{◌≡◌, ◌↔◌, ℕ, ◌+◌, ◌*◌, Bool, true, false, List, [], ◌∷◌, ◌++◌, length, Option, None, Some, is_some, cond, refl, sym, ◌∙◌, ap, subst, inl, inr, arith}
use mathlib.Core.Bool.{false≢true}
use Rattle.std.proofs.lemmas.Cmp.{nat_list_cmp_total}
use Rattle.std.specs.FinMap.{get, insert, remove, get-insert, get-remove}
use Rattle.std.specs.List.{AllByRecursion}
use Rattle.oz_fields.specs.declared.block.Piece.{Piece}
use Rattle.oz_namespace.specs.declared.namespace.Bucket.{Bucket}
use Rattle.oz_namespace.specs.declared.namespace.Namespace.{Namespace}
use Rattle.oz_namespace.specs.declared.namespace.Session.{Session}
use Rattle.oz_namespace.specs.Namespace.{with_volume}
use Rattle.oz_model.specs.Answers.{Answers, after}
use Rattle.oz_model.specs.Buckets.{buckets_at, bucket_at, with_keys, renamed, pieces_or_none}
use Rattle.oz_model.specs.laws.Scopes.{has_buckets}
use Rattle.oz_requests.specs.declared.reply.Reply.TheVariants as replies
use Rattle.oz_requests.specs.declared.request.Request.{Request}
use Rattle.oz_requests.specs.declared.request.Request.TheVariants.{RenameKey}
use Rattle.oz_requests.specs.Names.{name_fault}
use Rattle.oz_rows.specs.declared.key.RowKey.{RowKey}
use Rattle.oz_rows.specs.declared.key.RowKey.TheVariants as keys
use Rattle.oz_rows.specs.declared.operation.Change.{Change}
use Rattle.oz_rows.specs.declared.row.Row.{Row}
use Rattle.oz_rows.specs.declared.row.Row.TheVariants as rows
use Rattle.oz_rows.specs.RowMaps.{Rows, is_same, put, gone, after_changes}
use Rattle.oz_rows.specs.Rows.{AreItems, IsBlock}
use Rattle.oz_sound.specs.Kept.{KeepsBlocks}
use Rattle.oz_sound.specs.Sound.{IsSound, IsSoundButRenames, RenamesAreSound}
use Rattle.oz_sound.specs.StandsFor.{StandsFor, pieces_in}
use Rattle.oz_sound.specs.laws.BucketChanges.{itself}
use Rattle.oz_decision.specs.Meets.{AreInGrammar, IsSafe, MayGo, Meets, Stand, granted_in}
use Rattle.oz_decision.specs.Versions.{version_at}
use Rattle.oz_decision.specs.laws.Sessions.{session_stands}
use Rattle.oz_decision.specs.laws.Shown.{bucket_put}
use Rattle.oz_om_key.specs.om_change.Keys.{MayRename}
use Rattle.oz_om_key.specs.om_change.Noting.{AreSnapshotNumbers, noted}
use Rattle.oz_om_key.specs.om_change.Numbers.{MayBeNoted}
use Rattle.oz_om_key.specs.om_change.Records.{moved, renamed as renamed_so}
use Rattle.oz_om_key.proofs.om_change_lemmas.KeyRows.{KeyRow, blocks_fit, its_row, may_note, new_fits}
use Rattle.oz_om_key.proofs.om_change_lemmas.Seen.{pieces_are}
use Rattle.oz_om_key.proofs.om_change_lemmas.Batches.{Follows, after_both, bytes_of, joined, moving_follows}
use Rattle.oz_om_key.proofs.om_change_lemmas.Moves.{Goes}
use Rattle.oz_om_key.proofs.om_change_lemmas.RenameMoves.{renaming_goes}
use Rattle.oz_om_key.proofs.om_change_lemmas.Naming.{renames_stay}
use Rattle.oz_om_key.proofs.om_change_lemmas.Notes.{none_moves, notes_follow, still_stands}
use Rattle.oz_om_key.proofs.om_change_lemmas.Becoming.{Becomes, becomes_bucket, outside, name_is}

module _ (all : Rows) (v b k to : List ℕ) (named : name_fault (RenameKey v b k to) ≡ None) (may : MayRename all v b k to) where
  abbrev request : Request
  request = RenameKey v b k to

  abbrev of_key : RowKey
  of_key = keys.Key v b k

  abbrev of_new : RowKey
  of_new = keys.Key v b to

  it : KeyRow (all of_key)
  it = its_row all v b k may.is

  abbrev row : Row
  row = rows.Key it.number it.pieces

  -- the changes as they are recorded, and with the row that stood there
  abbrev recorded : Option Row → List Change
  recorded o = gone of_key ∷ moved of_new o

  abbrev made : List Change
  made = gone of_key ∷ put of_new row ∷ []

  abbrev now : Rows
  now = after_changes made all

  same_changes : recorded (all of_key) ≡ made
  same_changes = ap recorded it.is

  module _ (namespace : Namespace) (stand : Stand IsSoundButRenames all namespace) where
    abbrev old : Bucket
    old = bucket_at namespace v b

    abbrev new : Bucket
    new = with_keys old (renamed old.keys k to)

    old_pieces : get old.keys k ≡ Some it.pieces
    old_pieces = pieces_are all v b namespace stand k ∙ ap pieces_in it.is

    pieces_now : (q : List ℕ) → get new.keys q ≡ pieces_in (now (keys.Key v b q))
    pieces_now q =
        get-insert nat_list_cmp_total (remove old.keys k) to (pieces_or_none (get old.keys k)) q
        ∙ (λ i. cond (name_is v b to q (is_same of_new (keys.Key v b q)) refl i) (Some (pieces_or_none (old_pieces i))) ((get-remove nat_list_cmp_total old.keys k q ∙ ap (λ (t : Bool). cond t None (get old.keys q)) (name_is v b k q (is_same of_key (keys.Key v b q)) refl)) i))
        ∙ by_tests (is_same of_new (keys.Key v b q)) (is_same of_key (keys.Key v b q))
      where
        by_tests : (s t : Bool) → cond s (Some it.pieces) (cond t None (get old.keys q)) ≡ pieces_in (cond s (Some row) (cond t None (all (keys.Key v b q))))
        by_tests true t = refl
        by_tests false true = refl
        by_tests false false = pieces_are all v b namespace stand q

    sessions_now : (m : ℕ) (s : Session) → (get new.sessions m ≡ Some s) ↔ (now (keys.Open v b s.key m) ≡ Some (rows.Open s.blocks))
    sessions_now m s = session_stands all v b namespace stand m s

    becomes : Becomes all now namespace v b new
    becomes = record {
      bucket_row = refl;
      others = λ key is. outside v b made (refl, (refl, tt)) key is (all key);
      pieces = pieces_now;
      sessions = sessions_now;
      snapshots = refl;
      snapshot_rows = λ w c m. refl;
      snapshot_keys = λ w c m q. refl;
      stripes = λ m. refl;
    }

    -- the new name was not there
    differs : with_volume namespace v (insert (buckets_at namespace v) b new) ≡ namespace → ⊥
    differs e =
        let there = ap (λ (x : Bucket). get x.keys to) (sym (bucket_put namespace v b new) ∙ ap (λ (x : Namespace). bucket_at x v b) e) in
        let pieces : List Piece = pieces_or_none (get old.keys k) in
        let here = get-insert nat_list_cmp_total (remove old.keys k) to pieces to ∙ ap (λ (t : Bool). cond t (Some pieces) (get (remove old.keys k) to)) (itself to) in
        false≢true (ap is_some (sym (pieces_are all v b namespace stand to ∙ ap pieces_in may.free) ∙ sym there ∙ here))

    goes : Goes all now
    goes = renaming_goes all v b k to row it.is may.free stand.sound stand.fit (new_fits v b k to named all may.is row it.is)

    made_meets : Answers namespace request replies.Done → Meets IsSoundButRenames all namespace request replies.Done (bytes_of made) made
    unfolding after
    made_meets answers =
        let safe = subst (λ (c : List Change). IsSafe all (bytes_of c) c) same_changes ((moving_follows all v b k to named may).safe stand.fit) in
        let effect : after namespace request replies.Done ≡ with_volume namespace v (insert (buckets_at namespace v) b new) = has_buckets namespace v (insert (buckets_at namespace v) b new) in
        record {
          answers = answers;
          batch = safe.batch;
          leads = record {
            fit = safe.fit;
            stands = subst (StandsFor now) (sym effect) (becomes_bucket all now namespace v b new stand may.is.bucket_there becomes);
            sound = goes.sound;
          };
          blocks = record { none_lost = λ block had. inl (goes.lost block had); none_made = λ block has. inl (goes.made block has) };
          keeps = λ nothing. absurd (differs (sym effect ∙ nothing.0));
        }

  -- ---- and the old name is noted

  module _ (numbers : List ℕ) where
    abbrev notes : List Change
    notes = noted all v b k numbers (version_at (Some row))

    abbrev whole : List Change
    whole = made ++ notes

    same_whole : renamed_so all v b k to numbers ≡ whole
    same_whole = ap (λ o. gone of_key ∷ moved of_new o ++ noted all v b k numbers (version_at o)) it.is

    all_noted : AllByRecursion (MayBeNoted v b k) (version_at (Some row))
    all_noted = subst (λ o. AllByRecursion (MayBeNoted v b k) (version_at o)) it.is (may_note v b k to named all may.is)

    few_blocks : AreItems IsBlock (version_at (Some row))
    few_blocks = subst (λ o. AreItems IsBlock (version_at o)) it.is (blocks_fit all v b k may.is)

    moving : Follows all made 12608
    moving = subst (λ (c : List Change). Follows all c 12608) same_changes (moving_follows all v b k to named may)

    whole_follows : Follows all whole (12608 + length (version_at (Some row)) * 6304)
    whole_follows =
        let few = few_blocks.0 in
        joined all made notes 12608 (length (version_at (Some row)) * 6304) (omega (arith, few)) moving
        (notes_follow all v b k numbers now (version_at (Some row)) few all_noted)

    pub renaming_follows : Follows all (renamed_so all v b k to numbers) 1626432
    renaming_follows = subst (λ (c : List Change). Follows all c 1626432) (sym same_whole) (record {
      safe = whole_follows.safe;
      short = let short = whole_follows.short in let few = few_blocks.0 in omega (arith, short, few);
    })

    module _ (namespace : Namespace) (stand : Stand IsSoundButRenames all namespace) where
      abbrev last : Rows
      last = after_changes notes now

      same_rows : after_changes whole all ≡ last
      same_rows = after_both made notes all

      fit_last : AreInGrammar last
      fit_last = subst AreInGrammar same_rows (whole_follows.safe stand.fit).fit

      whole_meets : Answers namespace request replies.Done → Meets IsSoundButRenames all namespace request replies.Done (bytes_of whole) whole
      whole_meets answers =
          let first = made_meets namespace stand answers in
          let stays = none_moves all v b k numbers now (version_at (Some row)) first.leads.sound (granted_in replies.Done) (MayGo all request) in
          record {
            answers = answers;
            batch = (whole_follows.safe stand.fit).batch;
            leads = subst (λ (r : Rows). Stand IsSoundButRenames r (after namespace request replies.Done)) (sym same_rows)
                (still_stands all v b k numbers now (version_at (Some row)) first.leads.sound (after namespace request replies.Done) first.leads fit_last);
            blocks = subst (λ (r : Rows). KeepsBlocks all r (granted_in replies.Done) (MayGo all request)) (sym same_rows) (record {
              none_lost = λ block had. elim (first.blocks.none_lost block had) [ inl home ↦ stays.none_lost block home | inr may ↦ inr may ];
              none_made = λ block has. elim (stays.none_made block has) [ inl home ↦ first.blocks.none_made block home | inr new ↦ inr new ];
            });
            keeps = λ nothing. absurd (let none = first.keeps nothing in cc);
          }

      pub meets : Answers namespace request replies.Done → Meets IsSoundButRenames all namespace request replies.Done (bytes_of (renamed_so all v b k to numbers)) (renamed_so all v b k to numbers)
      meets answers = subst (λ (c : List Change). Meets IsSoundButRenames all namespace request replies.Done (bytes_of c) c) (sym same_whole) (whole_meets answers)

      pub renames_now : IsSound all → AreSnapshotNumbers all v b numbers → RenamesAreSound (after_changes (renamed_so all v b k to numbers) all)
      renames_now sound are = subst (λ (c : List Change). RenamesAreSound (after_changes c all)) (sym same_whole) (subst RenamesAreSound (sym same_rows)
          (renames_stay all v b k to it.number it.pieces it.is may.free numbers stand.fit sound are fit_last))
