-- Which of the named rows go, and what their removal makes of rows.
use Rattle.std.proofs.Common.{◌≡◌, ◌≢◌, ◌↔◌, inl, inr, ℕ, zero, suc, ◌+◌, ◌<◌, Bool, true, false, ◌||◌, List, [], ◌∷◌, ◌++◌, length, map, get_or, take, not, Some, Contains, refl, sym, ◌∙◌, ap, subst, arith}
use mathlib.Core.Bool.{false≢true}
use Rattle.std.proofs.lemmas.List.{take_more}
use Rattle.std.proofs.lemmas.Option.{same_Some}
use Rattle.std.specs.List.{AllByRecursion, list_any}
use Rattle.std.specs.Ordering.{is_eq}
use Rattle.std.specs.declared.cmp.Ordering.TheVariants.{Less, Equal}
use Rattle.oz_fields.specs.declared.block.Block.{Block}
use Rattle.oz_reclaim.specs.Found.{is_free}
use Rattle.oz_reclaim.specs.Found.{HasFree}
use Rattle.oz_reclaim.specs.Going.{AreKnown, Goes, IsPut, Tells}
use Rattle.oz_reclaim.specs.Reach.{IsShown}
use Rattle.oz_reclaim.specs.Service.{ArePurged, AreUnreached, IsPurged, IsUnreached, key_named}
use Rattle.oz_reclaim.specs.laws.Reach.{among, contains}
use Rattle.oz_reclaim.proofs.FreeRows.{is_one, fails, none_passes}
use Rattle.oz_requests.specs.declared.request.PurgeRow.{PurgeRow}
use Rattle.oz_rows.specs.Counts.{AllDiffer, AllRise}
use Rattle.oz_rows.specs.declared.key.RowKey.{RowKey}
use Rattle.oz_rows.specs.declared.row.Row.{Row}
use Rattle.oz_rows.specs.declared.row.Row.TheVariants as rows
use Rattle.oz_rows.specs.Rows.{KeyFits}
use Rattle.oz_rows.specs.RowMaps.{Rows, IsBelow, is_block, is_same, gone}
use Rattle.oz_rows.specs.laws.Order.{itself, key_order_total}
use Rattle.oz_rows.specs.laws.Same.{same_is_one}
use Rattle.oz_sound.specs.Sound.{StandsIn, blocks_of}

-- ---- lists

all_map : {A : Type 0} (P Q : A → Type 0) → ((a : A) → P a → Q a) → (l : List A) → AllByRecursion P l → AllByRecursion Q l
all_map P Q f [] all = tt
all_map P Q f (a ∷ l) all = (f a all.0, all_map P Q f l all.1)

all_last : {A : Type 0} (P : A → Type 0) (l : List A) (x : A) → AllByRecursion P l → P x → AllByRecursion P (l ++ x ∷ [])
all_last P [] x all one = (one, tt)
all_last P (y ∷ l) x all one = (all.0, all_last P l x all.1 one)

pub all_at : {A : Type 0} (P : A → Type 0) (l : List A) (i : ℕ) (x : A) → AllByRecursion P l → i < length l → x ≡ get_or l i x → P x
all_at P [] i x all within is = absurd (omega (arith, within))
all_at P (y ∷ l) zero x all within is = subst P (sym is) all.0
all_at P (y ∷ l) (suc i) x all within is = all_at P l i x all.1 (omega (arith, within)) is

pub member : {A : Type 0} (P : A → Type 0) (l : List A) (x : A) → AllByRecursion P l → Contains l x → P x
member P [] x all (at, within, is) = absurd (omega (arith, within))
member P (y ∷ l) x all (zero, within, is) = subst P is all.0
member P (y ∷ l) x all (suc at, within, is) = member P l x all.1 (at, omega (arith, within), is)

here_first : {A : Type 0} (x : A) (l : List A) → Contains (x ∷ l) x
here_first x l = (zero, omega arith, refl)

here_later : {A : Type 0} (x y : A) (l : List A) → Contains l x → Contains (y ∷ l) x
here_later x y l (at, within, is) = (suc at, omega (arith, within), is)

here_last : {A : Type 0} (l : List A) (x : A) → Contains (l ++ x ∷ []) x
here_last [] x = here_first x []
here_last (y ∷ l) x = here_later x y (l ++ x ∷ []) (here_last l x)

here_before : {A : Type 0} (l : List A) (x y : A) → Contains l x → Contains (l ++ y ∷ []) x
here_before [] x y (at, within, is) = absurd (omega (arith, within))
here_before (z ∷ l) x y (zero, within, is) = (zero, omega arith, is)
here_before (z ∷ l) x y (suc at, within, is) = here_later x z (l ++ y ∷ []) (here_before l x y (at, omega (arith, within), is))

mapped : {A B : Type 0} (f : A → B) (l : List A) (x : A) → Contains l x → Contains (map f l) (f x)
mapped f [] x (at, within, is) = absurd (omega (arith, within))
mapped f (y ∷ l) x (zero, within, is) = (zero, omega arith, ap f is)
mapped f (y ∷ l) x (suc at, within, is) = here_later (f x) (f y) (map f l) (mapped f l x (at, omega (arith, within), is))

differ_last : (l : List RowKey) (x : RowKey) → AllDiffer l → (Contains l x → ⊥) → AllDiffer (l ++ x ∷ [])
differ_last [] x differ new = (tt, tt)
differ_last (y ∷ l) x differ new = (
  all_last (λ other. y ≢ other) l x differ.0 (λ same. new (subst (λ z. Contains (y ∷ l) z) same (here_first y l))),
  differ_last l x differ.1 (λ there. new (here_later x y l there)),
)

pub found_same : (key : RowKey) (l : List RowKey) → list_any (λ other. is_same other key) l ≡ true → Contains l key
found_same key [] e = absurd (false≢true e)
found_same key (x ∷ l) e = by (is_same x key) refl e (found_same key l)
  where
    by : (t : Bool) → is_same x key ≡ t → t || list_any (λ other. is_same other key) l ≡ true → (list_any (λ other. is_same other key) l ≡ true → Contains l key) → Contains (x ∷ l) key
    by true same e later = subst (λ k. Contains (x ∷ l) k) (same_is_one x key same) (here_first x l)
    by false same e later = here_later key x l (later e)

pub same_found : (key : RowKey) (l : List RowKey) → Contains l key → list_any (λ other. is_same other key) l ≡ true
same_found key [] (at, within, is) = absurd (omega (arith, within))
same_found key (x ∷ l) (zero, within, is) = ap (λ k. is_same k key || list_any (λ other. is_same other key) l) is ∙ ap (λ o. is_eq o || list_any (λ other. is_same other key) l) (itself key)
same_found key (x ∷ l) (suc at, within, is) = by (is_same x key) (same_found key l (at, omega (arith, within), is))
  where
    by : (t : Bool) → list_any (λ other. is_same other key) l ≡ true → t || list_any (λ other. is_same other key) l ≡ true
    by true e = refl
    by false e = e

-- ---- keys that rise

-- the last of rising keys is the greatest
pub all_below : (l : List RowKey) (i : ℕ) (last x : RowKey) → length l ≡ i + 1 → last ≡ get_or l i last → AllRise l → IsBelow last x → AllByRecursion (λ key. IsBelow key x) l
all_below [] i last x count is rise below = absurd (omega (arith, count))
all_below (y ∷ []) zero last x count is rise below = (subst (λ key. IsBelow key x) is below, tt)
all_below (y ∷ z ∷ l) zero last x count is rise below = absurd (omega (arith, count))
all_below (y ∷ l) (suc i) last x count is rise below =
    (key_order_total.trans y last x (all_at (λ key. IsBelow y key) l i last rise.0 (omega (arith, count)) is) below, all_below l i last x (omega (arith, count)) is rise.1 below)

pub rise_last : (l : List RowKey) (x : RowKey) → AllRise l → AllByRecursion (λ key. IsBelow key x) l → AllRise (l ++ x ∷ [])
rise_last [] x rise below = (tt, tt)
rise_last (y ∷ l) x rise below = (all_last (λ key. IsBelow y key) l x rise.0 below.0, rise_last l x rise.1 below.1)

-- a key isn't among those below it
pub not_below : (l : List RowKey) (x : RowKey) → AllByRecursion (λ key. IsBelow key x) l → Contains l x → ⊥
not_below l x below there = absurd (less_apart (sym (itself x) ∙ member (λ key. IsBelow key x) l x below there))
  where
    less_apart : Equal ≡ Less → ⊥
    less_apart e = absurd (false≢true (sym (ap is_eq e)))

-- ---- which rows go

module _ (all : Rows) (test : Block → Bool) (volume : List ℕ) where
  -- of the rows up to here, those that go are chosen
  pub record Chosen (front : List PurgeRow) (found : List RowKey) : Type 0 where
    pub differ : AllDiffer found
    pub each : AllByRecursion (λ key. Goes all test key × Contains (map (key_named volume) front) key) found
    pub every : AllByRecursion (λ (row : PurgeRow). Goes all test (key_named volume row) → Contains found (key_named volume row)) front

  pub none_chosen : Chosen [] []
  none_chosen = record { differ = tt; each = tt; every = tt }

  named_more : (front : List PurgeRow) (row : PurgeRow) (key : RowKey) → Contains (map (key_named volume) front) key → Contains (map (key_named volume) (front ++ row ∷ [])) key
  named_more [] row key (at, within, is) = absurd (omega (arith, within))
  named_more (x ∷ front) row key (zero, within, is) = (zero, omega arith, is)
  named_more (x ∷ front) row key (suc at, within, is) = here_later key (key_named volume x) (map (key_named volume) (front ++ row ∷ [])) (named_more front row key (at, omega (arith, within), is))

  -- a row that goes only where it is among them, and one that goes
  chosen_as_before : (front : List PurgeRow) (row : PurgeRow) (before : List RowKey) → Chosen front before → (Goes all test (key_named volume row) → Contains before (key_named volume row)) → Chosen (front ++ row ∷ []) before
  chosen_as_before front row before chosen there = record {
    differ = chosen.differ;
    each = all_map _ _ (λ key it. (it.0, named_more front row key it.1)) before chosen.each;
    every = all_last (λ (other : PurgeRow). Goes all test (key_named volume other) → Contains before (key_named volume other)) front row chosen.every there;
  }

  chosen_more : (front : List PurgeRow) (row : PurgeRow) (before now : List RowKey) → Chosen front before → Goes all test (key_named volume row) → IsPut (key_named volume row) before now → Chosen (front ++ row ∷ []) now
  chosen_more front row before now chosen goes (inl (is, new)) =
      subst (Chosen (front ++ row ∷ [])) (sym is) (record {
        differ = differ_last before (key_named volume row) chosen.differ new;
        each = all_last (λ key. Goes all test key × Contains (map (key_named volume) (front ++ row ∷ [])) key) before (key_named volume row)
            (all_map _ _ (λ key it. (it.0, named_more front row key it.1)) before chosen.each)
            (goes, mapped (key_named volume) (front ++ row ∷ []) row (here_last front row));
        every = all_last (λ (other : PurgeRow). Goes all test (key_named volume other) → Contains (before ++ key_named volume row ∷ []) (key_named volume other)) front row
            (all_map _ _ (λ other it go. here_before before (key_named volume other) (key_named volume row) (it go)) front chosen.every)
            (λ go. here_last before (key_named volume row));
      })
  chosen_more front row before now chosen goes (inr (is, there)) = subst (Chosen (front ++ row ∷ [])) (sym is) (chosen_as_before front row before chosen (λ go. there))

  one_more : (named : List PurgeRow) (i : ℕ) (row : PurgeRow) (now : List RowKey) → i < length named → row ≡ get_or named i row → Chosen (take i named ++ row ∷ []) now → Chosen (take (i + 1) named) now
  one_more named i row now within is chosen =
      subst (λ (front : List PurgeRow). Chosen front now) (sym (take_more named i row within ∙ ap (λ (x : PurgeRow). take i named ++ x ∷ []) (sym is))) chosen

  pub chosen_next : (named : List PurgeRow) (i : ℕ) (row : PurgeRow) (before now : List RowKey) → i < length named → row ≡ get_or named i row → Chosen (take i named) before → Goes all test (key_named volume row) → IsPut (key_named volume row) before now → Chosen (take (i + 1) named) now
  chosen_next named i row before now within is chosen goes put = one_more named i row now within is (chosen_more (take i named) row before now chosen goes put)

  pub chosen_still : (named : List PurgeRow) (i : ℕ) (row : PurgeRow) (before : List RowKey) → i < length named → row ≡ get_or named i row → Chosen (take i named) before → (Goes all test (key_named volume row) → ⊥) → Chosen (take (i + 1) named) before
  chosen_still named i row before within is chosen stays = one_more named i row before within is (chosen_as_before (take i named) row before chosen (λ go. absurd (stays go)))

  unreached : (key : RowKey) → Tells all test key → (it : HasFree all test key) → IsUnreached all key
  unreached key tells (row, there, free) = λ block stands shown.
      let one = is_one test row free in
      let has : list_any (is_block block) one.blocks ≡ true = subst (λ (r : Row). list_any (is_block block) (blocks_of r) ≡ true) (same_Some stands.row row (sym stands.there ∙ there) ∙ one.is) stands.has in
      fails test one.blocks block one.none (contains block one.blocks has) ((tells block stands).1 shown)

  goes_too : (key : RowKey) (blocks : List Block) → KeyFits key → all key ≡ Some (rows.Deleted blocks) → Tells all test key → IsUnreached all key → Goes all test key
  goes_too key blocks fits row tells away = (fits, (rows.Deleted blocks, row, free))
    where
      stands : (block : Block) → Contains blocks block → StandsIn all block key
      stands block has = record { row = rows.Deleted blocks; there = row; has = among block blocks has }

      none : list_any test blocks ≡ false
      none = none_passes test blocks (λ block has passes. away block (stands block has) ((tells block (stands block has)).0 passes))

      free : is_free test (rows.Deleted blocks) ≡ true
      free = ap not none

  pub origin_of : (named : List PurgeRow) (key : RowKey) → Contains (map (key_named volume) named) key → (row : PurgeRow) × Contains named row × (key_named volume row ≡ key)
  origin_of [] key (at, within, is) = absurd (omega (arith, within))
  origin_of (x ∷ named) key (zero, within, is) = (x, here_first x named, is)
  origin_of (x ∷ named) key (suc at, within, is) = let rest = origin_of named key (at, omega (arith, within), is) in (rest.0, here_later rest.0 x named rest.1, rest.2)

  module _ (named : List PurgeRow) (tells : AllByRecursion (λ (row : PurgeRow). Tells all test (key_named volume row)) named) (found : List RowKey) (chosen : Chosen named found) where
    tells_of : (key : RowKey) → Contains (map (key_named volume) named) key → Tells all test key
    tells_of key there =
        let from = origin_of named key there in
        subst (Tells all test) from.2 (member (λ (row : PurgeRow). Tells all test (key_named volume row)) named from.0 tells from.1)

    one_purged : (key : RowKey) → Goes all test key × Contains (map (key_named volume) named) key → IsPurged all volume named key
    one_purged key (goes, there) =
        let one = is_one test goes.1.0 goes.1.2 in
        record {
          named_so = there;
          fits = goes.0;
          blocks = one.blocks;
          row = goes.1.1 ∙ ap Some one.is;
          unreached = unreached key (tells_of key there) goes.1;
        }

    pub are_purged : ArePurged all volume named (map gone found)
    are_purged = record {
      rows_gone = found;
      are = refl;
      differ = chosen.differ;
      each = all_map _ _ one_purged found chosen.each;
      every = λ key is.
          let from = origin_of named key is.named_so in
          let goes = goes_too key is.blocks is.fits is.row (tells_of key is.named_so) is.unreached in
          subst (Contains found) from.2 (member (λ (row : PurgeRow). Goes all test (key_named volume row) → Contains found (key_named volume row)) named from.0 chosen.every from.1 (subst (Goes all test) (sym from.2) goes));
    }

    pub all_fit : AllByRecursion KeyFits found
    all_fit = all_map _ _ (λ key it. it.0.0) found chosen.each

-- ---- what is known needs no test

pub known_tells : (all : Rows) (test : Block → Bool) (known : List ℕ) → AreUnreached all known → ((block : Block) → test block ≡ false) → (named : List PurgeRow) → AreKnown named known → (volume : List ℕ) → AllByRecursion (λ (row : PurgeRow). Tells all test (key_named volume row)) named
known_tells all test known away none named are volume =
    all_map _ _ (λ (row : PurgeRow) there. λ block stands. ((λ passes. absurd (false≢true (sym (none block) ∙ passes))), λ shown. absurd (away volume row.bucket row.key row.owner row.local there block stands shown))) named are

pub all_tell : (all : Rows) (test : Block → Bool) → ((block : Block) → (test block ≡ true) ↔ IsShown all block) → (named : List PurgeRow) (volume : List ℕ) → AllByRecursion (λ (row : PurgeRow). Tells all test (key_named volume row)) named
all_tell all test tells [] volume = tt
all_tell all test tells (row ∷ named) volume = ((λ block stands. tells block), all_tell all test tells named volume)

pub known_last : (known : List ℕ) (named : List PurgeRow) (i : ℕ) (row : PurgeRow) → i < length named → row ≡ get_or named i row → AreKnown (take i named) known → Contains known row.local → AreKnown (take (i + 1) named) known
known_last known named i row within is are there =
    subst (λ (front : List PurgeRow). AreKnown front known) (sym (take_more named i row within ∙ ap (λ (x : PurgeRow). take i named ++ x ∷ []) (sym is)))
    (all_last (λ (r : PurgeRow). Contains known r.local) (take i named) row are there)
