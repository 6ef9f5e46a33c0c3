-- The blocks of a bucket's sessions move to deleted rows.
use Rattle.std.proofs.Common.{◌≡◌, ◌≢◌, ℕ, Bool, true, false, ◌||◌, List, [], ◌∷◌, map, Option, None, Some, IsSome, is_some, refl, sym, ◌∙◌, ap, subst, arith, inl}
use mathlib.Core.Bool.{false≢true}
use Rattle.std.proofs.lemmas.Option.{same_Some}
use Rattle.std.specs.List.{AllByRecursion, list_any}
use Rattle.oz_effects.specs.Effects.{has_block, is_in_a_key}
use Rattle.oz_fields.specs.declared.block.Block.{Block}
use Rattle.oz_fields.specs.declared.block.Piece.{Piece}
use Rattle.oz_names.specs.Names.{stripe_of}
use Rattle.oz_rows.specs.declared.entry.RowEntry.{RowEntry}
use Rattle.oz_rows.specs.declared.key.RowKey.{RowKey}
use Rattle.oz_rows.specs.declared.key.RowKey.TheVariants as keys
use Rattle.oz_rows.specs.declared.row.Row.{Row}
use Rattle.oz_rows.specs.declared.row.Row.TheVariants as rows
use Rattle.oz_rows.specs.RowMaps.{Rows, KeysRise, is_block, row_of}
use Rattle.oz_rows.specs.Rows.{IsBlock, RowFits, ValueFits, kind_of}
use Rattle.oz_sound.specs.stripes.laws.Lists.{each_found}
use Rattle.oz_sound.specs.Kept.{HasHome}
use Rattle.oz_sound.specs.Sound.{StandsIn, blocks_of, bucket_of_row, IsHome, IsKeeper, IsUsing, IsSoundButRenames}
use Rattle.oz_sound.specs.StandsFor.{drawn_in}
use Rattle.oz_decision.specs.Meets.{AreInGrammar}
use Rattle.oz_decision.specs.laws.Versions.{one_block, block_itself}
use Rattle.oz_sound.specs.frames.Buckets.{IsOutside}
use Rattle.oz_sound.specs.frames.Moves.{StoodIn, StoodTogether, BlocksMove, NamesStay}
use Rattle.oz_sound.specs.frames.laws.Bare.{bare_stripes}
use Rattle.oz_sound.specs.frames.laws.Moving.{at_most}
use Rattle.oz_om_session.proofs.om_open_lemmas.Dropping.{now as rows_now, IsOneOf, Now, is_gone, is_freed, is_same_row, row_now, session_gone, block_freed}

some_apart : {A : Type 0} {a : A} → Some a ≡ None → ⊥
some_apart e = false≢true (sym (ap is_some e))

keeper_home : (q : RowKey) → IsKeeper q → IsHome q
keeper_home (keys.Key w c r) keeper = tt
keeper_home (keys.Deleted w c o r l) keeper = tt
keeper_home q keeper = absurd keeper

abbrev its_owner : RowKey → ℕ
its_owner (keys.Deleted w c o k l) = o
its_owner key = 0

abbrev its_local : RowKey → ℕ
its_local (keys.Deleted w c o k l) = l
its_local key = 0

abbrev its_key : RowKey → List ℕ
its_key (keys.Deleted w c o k l) = k
its_key (keys.Open w c k m) = k
its_key key = []

any_mapped : (block : Block) (pieces : List Piece) → list_any (λ (piece : Piece). is_block block piece.block) pieces ≡ list_any (is_block block) (map (λ (piece : Piece). piece.block) pieces)
any_mapped block [] = refl
any_mapped block (piece ∷ pieces) = ap (λ (t : Bool). is_block block piece.block || t) (any_mapped block pieces)

one_of : (P : Block → Type 0) (block : Block) (blocks : List Block) → AllByRecursion P blocks → list_any (is_block block) blocks ≡ true → P block
one_of P block [] all has = absurd (false≢true has)
one_of P block (x ∷ blocks) all has = by_block (is_block block x) refl has (one_of P block blocks all.1)
  where
    by_block : (t : Bool) → is_block block x ≡ t → t || list_any (is_block block) blocks ≡ true → (list_any (is_block block) blocks ≡ true → P block) → P block
    by_block true e has later = subst P (sym (one_block block x e)) all.0
    by_block false e has later = later has

-- no deleted row begins with a block that stands in a session
module _ (all : Rows) (sound : IsSoundButRenames all) (fit : AreInGrammar all) (v b k : List ℕ) (m : ℕ) (block : Block) (stands : StandsIn all block (keys.Open v b k m)) where
  abbrev place : RowKey
  place = keys.Deleted v b 0 k block.local

  no_row : (row : Row) → all place ≡ Some row → ValueFits place row → ⊥
  no_row (rows.Deleted []) e fits = fits.1
  no_row (rows.Deleted (x ∷ others)) e fits =
      let there : StandsIn all x place = record { row = rows.Deleted (x ∷ others); there = e; has = ap (λ (t : Bool). t || list_any (is_block x) others) (block_itself x) } in
      let same = sound.blocks.one_local x block place (keys.Open v b k m) there stands fits.1 in
      let one = sound.blocks.one_home block place (keys.Open v b k m) tt tt (subst (λ y. StandsIn all y place) same there) stands in
      absurd (cc)
  no_row row e fits = fits

  place_free : all place ≡ None
  place_free = by_row (all place) refl
    where
      by_row : (o : Option Row) → all place ≡ o → all place ≡ None
      by_row None e = e
      by_row (Some row) e = absurd (no_row row e (fit place row e).1)

module _ (v b : List ℕ) (entries : List RowEntry) (rise : KeysRise entries) (fit : AreInGrammar (row_of entries)) where
  abbrev all : Rows
  all = row_of entries

  abbrev pub now : Rows
  now = rows_now v b entries rise

  abbrev OneOf : RowKey → Option Row → Type 0
  OneOf q row = IsOneOf v b entries rise q row

  -- the key of a deleted row of a session's block
  place_of : (q : RowKey) (row : Option Row) (one : OneOf q row) → keys.Deleted v b 0 one.freed.key one.freed.block.local ≡ q
  place_of q row one = sym (ap (λ change. change.key) one.freed.is) ∙ one.same

  row_at : (q : RowKey) (row : Option Row) (one : OneOf q row) → row ≡ Some (rows.Deleted (one.freed.block ∷ []))
  row_at q row one = one.row_is ∙ ap (λ change. change.row) one.freed.is

  -- rows of other kinds, and of other buckets, are as they were
  pub other_kinds : (q : RowKey) → kind_of q ≢ 4 → kind_of q ≢ 5 → now q ≡ all q
  other_kinds q not_open not_deleted = by_now (row_now v b entries rise q)
    where
      by_now : Now v b entries rise q → now q ≡ all q
      by_now (is_gone k m is none) = absurd (not_open (ap kind_of is))
      by_now (is_freed one) = absurd (not_deleted (ap kind_of (sym (place_of q (now q) one))))
      by_now (is_same_row same) = same

  pub outside : (q : RowKey) → IsOutside v b q → now q ≡ all q
  outside q is = by_now (row_now v b entries rise q)
    where
      by_now : Now v b entries rise q → now q ≡ all q
      by_now (is_gone k m same none) = absurd (is.other (ap bucket_of_row same))
      by_now (is_freed one) = absurd (is.other (ap bucket_of_row (sym (place_of q (now q) one))))
      by_now (is_same_row same) = same

  -- the row of a session's block keeps the rules
  freed_fits : (q : RowKey) (row : Option Row) (one : OneOf q row) → RowFits q (rows.Deleted (one.freed.block ∷ []))
  freed_fits q row one =
      let session = fit (keys.Open v b one.freed.key one.freed.number) (rows.Open one.freed.blocks) one.freed.session in
      let block = one_of IsBlock one.freed.block one.freed.blocks session.1.1 one.freed.has in
      subst (λ key. RowFits key (rows.Deleted (one.freed.block ∷ []))) (place_of q row one)
      ((session.0.0, session.0.1, (omega arith), session.0.2, block.1), ((omega arith, (block, tt)), refl))

  pub fit_now : AreInGrammar now
  fit_now q row e = by_now (row_now v b entries rise q)
    where
      by_now : Now v b entries rise q → RowFits q row
      by_now (is_gone k m is none) = absurd (some_apart (sym e ∙ none))
      by_now (is_freed one) = subst (RowFits q) (same_Some (rows.Deleted (one.freed.block ∷ [])) row (sym (row_at q (now q) one) ∙ e)) (freed_fits q (now q) one)
      by_now (is_same_row same) = fit q row (sym same ∙ e)

  -- where a block of a row now stood
  pub data Origin (block : Block) (q : RowKey) : Type 0 where
    stood : StandsIn all block q → now q ≡ all q → Origin block q
    came : (k : List ℕ) (m : ℕ) → q ≡ keys.Deleted v b 0 k block.local → StandsIn all block (keys.Open v b k m) → Origin block q

  its_session : (q : RowKey) (row : Option Row) (one : OneOf q row) → StandsIn all one.freed.block (keys.Open v b one.freed.key one.freed.number)
  its_session q row one = record { row = rows.Open one.freed.blocks; there = one.freed.session; has = one.freed.has }

  pub origin : (block : Block) (q : RowKey) → StandsIn now block q → Origin block q
  origin block q stands = by_now (row_now v b entries rise q)
    where
      alone : (x : Block) (t : Bool) → is_block block x ≡ t → t || false ≡ true → block ≡ x
      alone x true e f = one_block block x e
      alone x false e f = absurd (false≢true f)

      by_now : Now v b entries rise q → Origin block q
      by_now (is_gone k m is none) = absurd (some_apart (sym stands.there ∙ none))
      by_now (is_same_row same) = stood (record { row = stands.row; there = sym same ∙ stands.there; has = stands.has }) same
      by_now (is_freed one) =
          let row = same_Some (rows.Deleted (one.freed.block ∷ [])) stands.row (sym (row_at q (now q) one) ∙ stands.there) in
          let block_is : block ≡ one.freed.block = alone one.freed.block (is_block block one.freed.block) refl (ap (λ (r : Row). list_any (is_block block) (blocks_of r)) row ∙ stands.has) in
          came one.freed.key one.freed.number (sym (place_of q (now q) one) ∙ (λ i. keys.Deleted v b 0 one.freed.key (sym block_is i).local))
          (subst (λ x. StandsIn all x (keys.Open v b one.freed.key one.freed.number)) (sym block_is) (its_session q (now q) one))

  module _ (sound : IsSoundButRenames all) where
    -- a block of a session stands in no key
    no_key : (k : List ℕ) (m : ℕ) (block : Block) → StandsIn all block (keys.Open v b k m) → (key : RowKey) (row : Row) → all key ≡ Some row → has_block block key row ≡ false
    no_key k m block stands (keys.Key w c q) (rows.Key n pieces) e = by_test (list_any (λ (piece : Piece). is_block block piece.block) pieces) refl
      where
        by_test : (t : Bool) → list_any (λ (piece : Piece). is_block block piece.block) pieces ≡ t → t ≡ false
        by_test false f = refl
        by_test true f =
            let there : StandsIn all block (keys.Key w c q) = record { row = rows.Key n pieces; there = e; has = sym (any_mapped block pieces) ∙ f } in
            let one = sound.blocks.one_home block (keys.Key w c q) (keys.Open v b k m) tt tt there stands in
            absurd (cc)
    no_key k m block stands key row e = refl

    in_no_key : (k : List ℕ) (m : ℕ) (block : Block) → StandsIn all block (keys.Open v b k m) → (l : List RowEntry) → AllByRecursion (λ (x : RowEntry). all x.key ≡ Some x.row) l → is_in_a_key l block ≡ false
    in_no_key k m block stands [] found = refl
    in_no_key k m block stands (x ∷ l) found = ap (λ (t : Bool). t || is_in_a_key l block) (no_key k m block stands x.key x.row found.0) ∙ in_no_key k m block stands l found.1

    -- where a block of a session goes
    session_block : (k : List ℕ) (m : ℕ) (block : Block) (row : Row) → all (keys.Open v b k m) ≡ Some row → ValueFits (keys.Open v b k m) row → list_any (is_block block) (blocks_of row) ≡ true → StandsIn now block (keys.Deleted v b 0 k block.local)
    session_block k m block (rows.Open blocks) e fits has =
        let stands : StandsIn all block (keys.Open v b k m) = record { row = rows.Open blocks; there = e; has = has } in
        let one = block_freed v b entries rise k m blocks block e has (in_no_key k m block stands entries (each_found entries rise)) in
        let place = keys.Deleted v b 0 k block.local in
        let local : one.freed.block.local ≡ block.local = ap its_local (place_of place (now place) one) in
        let same = sound.blocks.one_local one.freed.block block (keys.Open v b one.freed.key one.freed.number) (keys.Open v b k m) (its_session place (now place) one) stands local in
        record {
          row = rows.Deleted (one.freed.block ∷ []);
          there = row_at place (now place) one;
          has = ap (λ x. is_block block x || false) same ∙ ap (λ (t : Bool). t || false) (block_itself block);
        }
    session_block k m block row e fits has = absurd fits

    goes : (k : List ℕ) (m : ℕ) (block : Block) → StandsIn all block (keys.Open v b k m) → StandsIn now block (keys.Deleted v b 0 k block.local)
    goes k m block stands = session_block k m block stands.row stands.there (fit (keys.Open v b k m) stands.row stands.there).1 stands.has

    -- a place where a session's block goes had no row
    taken : {P : Type 0} (block : Block) (q : RowKey) (row : Option Row) → OneOf q row → StandsIn all block q → P
    taken block q row one stands = absurd (some_apart (sym stands.there ∙ ap all (sym (place_of q row one)) ∙ place_free all sound fit v b one.freed.key one.freed.number one.freed.block (its_session q row one)))

    none_lost : (block : Block) → HasHome all block → HasHome now block
    none_lost block had = by_now (row_now v b entries rise had.key)
      where
        by_now : Now v b entries rise had.key → HasHome now block
        by_now (is_gone k m is none) = record { key = keys.Deleted v b 0 k block.local; home = tt; here = goes k m block (subst (StandsIn all block) is had.here) }
        by_now (is_freed one) = taken block had.key (now had.key) one had.here
        by_now (is_same_row same) = record { key = had.key; home = had.home; here = record { row = had.here.row; there = same ∙ had.here.there; has = had.here.has } }

    stays : (block : Block) (q : RowKey) → IsKeeper q → StandsIn all block q → (new : RowKey) × IsKeeper new × StandsIn now block new
    stays block q keeper stands = by_now (row_now v b entries rise q)
      where
        by_now : Now v b entries rise q → (new : RowKey) × IsKeeper new × StandsIn now block new
        by_now (is_gone k m is none) = absurd (subst IsKeeper is keeper)
        by_now (is_freed one) = taken block q (now q) one stands
        by_now (is_same_row same) = (q, keeper, record { row = stands.row; there = same ∙ stands.there; has = stands.has })

    -- the place of a session's block isn't where it stood before
    not_there : {P : Type 0} (block other : Block) (q : RowKey) (k : List ℕ) (m : ℕ) → q ≡ keys.Deleted v b 0 k other.local → StandsIn all other (keys.Open v b k m) → StandsIn all block q → P
    not_there block other q k m is session stands = absurd (some_apart (sym stands.there ∙ ap all is ∙ place_free all sound fit v b k m other session))

    same_home : (block : Block) (q r : RowKey) → IsHome q → StandsIn all block q → (k : List ℕ) (m : ℕ) → r ≡ keys.Deleted v b 0 k block.local → StandsIn all block (keys.Open v b k m) → StandsIn now block q → q ≡ r
    same_home block q r home here k m is session stands =
        let same : q ≡ keys.Open v b k m = sound.blocks.one_home block q (keys.Open v b k m) home tt here session in
        absurd (some_apart (sym stands.there ∙ ap now same ∙ session_gone v b entries rise k m))

    one_home : (block : Block) (q r : RowKey) → IsHome q → IsHome r → StandsIn now block q → StandsIn now block r → q ≡ r
    one_home block q r home home' here there = by_origins (origin block q here) (origin block r there)
      where
        by_origins : Origin block q → Origin block r → q ≡ r
        by_origins (stood was same) (stood was' same') = sound.blocks.one_home block q r home home' was was'
        by_origins (stood was same) (came k m is session) = same_home block q r home was k m is session here
        by_origins (came k m is session) (stood was same) = sym (same_home block r q home' was k m is session there)
        by_origins (came k m is session) (came k' m' is' session') =
            let one = sound.blocks.one_home block (keys.Open v b k m) (keys.Open v b k' m') tt tt session session' in
            is ∙ (λ i. keys.Deleted v b 0 (ap its_key one i) block.local) ∙ sym is'

    together : (block other : Block) (q : RowKey) → IsKeeper q → StandsIn now block q → StandsIn now other q → StoodTogether all block other (bucket_of_row q)
    together block other q keeper here there = by_origins (origin block q here) (origin other q there)
      where
        by_origins : Origin block q → Origin other q → StoodTogether all block other (bucket_of_row q)
        by_origins (stood was same) (stood was' same') = record { key = q; home = keeper_home q keeper; here = was; there = was'; same_bucket = refl }
        by_origins (stood was same) (came k m is session) = not_there block other q k m is session was
        by_origins (came k m is session) (stood was same) = not_there other block q k m is session was
        by_origins (came k m is session) (came k' m' is' session') =
            let local : block.local ≡ other.local = ap its_local (sym is ∙ is') in
            let same = sound.blocks.one_local block other (keys.Open v b k m) (keys.Open v b k' m') session session' local in
            record { key = keys.Open v b k m; home = tt; here = session; there = subst (λ x. StandsIn all x (keys.Open v b k m)) same session; same_bucket = ap bucket_of_row (sym is) }

    stood_in : (block : Block) (q : RowKey) → IsHome q → Origin block q → StoodIn all block (bucket_of_row q)
    stood_in block q home (stood was same) = record { key = q; home = home; here = was; same_bucket = refl }
    stood_in block q home (came k m is session) = record { key = keys.Open v b k m; home = tt; here = session; same_bucket = ap bucket_of_row (sym is) }

    still_open : (w c q : List ℕ) (m : ℕ) → IsSome (now (keys.Open w c q m)) → IsSome (all (keys.Open w c q m))
    still_open w c q m some = by_now (row_now v b entries rise (keys.Open w c q m))
      where
        by_now : Now v b entries rise (keys.Open w c q m) → IsSome (all (keys.Open w c q m))
        by_now (is_gone k n is none) = absurd (false≢true (sym (ap is_some none) ∙ some))
        by_now (is_freed one) = absurd (let place = place_of (keys.Open w c q m) (now (keys.Open w c q m)) one in cc)
        by_now (is_same_row same) = sym (ap is_some same) ∙ some

    owner_there : (w c q : List ℕ) (o l : ℕ) → IsSome (now (keys.Deleted w c o q l)) → o ≢ 0 → IsSome (all (keys.Deleted w c o q l))
    owner_there w c q o l some apart = by_now (row_now v b entries rise (keys.Deleted w c o q l))
      where
        by_now : Now v b entries rise (keys.Deleted w c o q l) → IsSome (all (keys.Deleted w c o q l))
        by_now (is_gone k n is none) = absurd (false≢true (sym (ap is_some none) ∙ some))
        by_now (is_freed one) = absurd (apart (sym (ap its_owner (place_of (keys.Deleted w c o q l) (now (keys.Deleted w c o q l)) one))))
        by_now (is_same_row same) = sym (ap is_some same) ∙ some

    others : (q : RowKey) → (IsHome q → ⊥) → kind_of q ≢ 9 → now q ≡ all q
    others q no_home kind = by_now (row_now v b entries rise q)
      where
        by_now : Now v b entries rise q → now q ≡ all q
        by_now (is_gone k m is none) = absurd (no_home (subst IsHome (sym is) tt))
        by_now (is_freed one) = absurd (no_home (subst IsHome (place_of q (now q) one) tt))
        by_now (is_same_row same) = same

    stripe_same : (s : ℕ) → now (keys.Stripe s) ≡ all (keys.Stripe s)
    stripe_same s = other_kinds (keys.Stripe s) (λ e. omega (arith, e)) (λ e. omega (arith, e))

    using_before : (w c : List ℕ) (one : List ℕ × Option ℕ) → IsUsing now w c one → IsUsing all w c one
    using_before w c (q, None) some = subst IsSome (other_kinds (keys.Key w c q) (λ e. omega (arith, e)) (λ e. omega (arith, e))) some
    using_before w c (q, Some m) some = still_open w c q m some

    drawn_same : (s : ℕ) → drawn_in (all (keys.Stripe s)) ≡ drawn_in (now (keys.Stripe s))
    drawn_same s = ap drawn_in (sym (stripe_same s))

    pub moves : BlocksMove all now None
    moves = record {
      others = others;
      bare = λ s block stands. bare_stripes now fit_now s block stands;
      came = λ block q home stands. inl (stood_in block q home (origin block q stands));
      none_lost = none_lost;
      stays = stays;
      one_home = one_home;
      together = together;
      open_key = λ w c q m block stands. inl (open_before w c q m block (origin block (keys.Open w c q m) stands));
      drawn = λ s. let same = drawn_same s in omega (arith, same);
      sessions = λ w c q m some. let number = sound.numbers.sessions w c q m (still_open w c q m some) in let same = drawn_same (stripe_of w) in omega (arith, number, same);
      owners = owner_there;
      few = λ w c. at_most _ _ 4096 (using_before w c) (sound.counts.keys_and_sessions w c);
    }
      where
        open_before : (w c q : List ℕ) (m : ℕ) (block : Block) → Origin block (keys.Open w c q m) → (number : ℕ) × StandsIn all block (keys.Open w c q number)
        open_before w c q m block (stood was same) = (m, was)
        open_before w c q m block (came k n is session) = absurd (cc)

    pub names_stay : NamesStay all now
    names_stay w c q block stands = inl (by_origin (origin block (keys.Key w c q) stands))
      where
        by_origin : Origin block (keys.Key w c q) → StandsIn all block (keys.Key w c q)
        by_origin (stood was same) = was
        by_origin (came k n is session) = absurd (cc)
