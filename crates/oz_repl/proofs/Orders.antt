-- The due copies one after another are the due copies, each once.
use Rattle.std.proofs.Common.{◌≡◌, ⊎_elim, ◌↔◌, ℕ, zero, suc, ◌<◌, ◌≤◌, Bool, true, false, not, ◌&&◌, ◌||◌}
use Rattle.std.proofs.Common.{◌+◌, cond, List, [], ◌∷◌, ◌++◌, length, get_or, take, filter, Some}
use Rattle.std.proofs.Common.{Contains, refl, sym, ◌∙◌, ap, subst, take_all, arith}
use Rattle.std.proofs.lemmas.Bool.{and_from, and_parts, cases_lt, false_from_ne_true, not-true, not_from_false}
use Rattle.std.proofs.lemmas.Option.{get_or_from_slice_get, slice_get-get_or, slice_get_within}
use Rattle.std.proofs.lemmas.List.Elements.{Contains-append_cases, Contains-append_left, Contains-append_right}
use Rattle.std.specs.List.{flat_map, list_any, range_with_len, slice_get}
use Rattle.oz_repl.specs.declared.repl.view.View.{View}
use Rattle.oz_repl.specs.declared.repl.view.CopyOrder.{CopyOrder}
use Rattle.oz_core.specs.Law.{may_be_copied}
use Rattle.oz_repl.specs.repl.View.{HoldsAt, IsDueCopy, held_at}
use Rattle.oz_repl.specs.repl.Listed.{copies, copies_from, copies_of, copies_of_sources, copy_to, is_among, is_holder_at, is_lacking_at, is_source_at, order_of}
use Rattle.oz_repl.proofs.Tests.{holds_at, is_holder, is_lacking, is_not_found, lacks_at, not_among}

pub all_from : (view : View) (from : ℕ) (items : List ℕ) (i : ℕ) → length items ≤ i → items ≡ held_at view from
    → copies_of_sources view from (take i items) ≡ copies_from view from
unfolding copies_from
all_from view from items i past same = ap (copies_of_sources view from) (take_all i items past ∙ same)

-- ---- membership

pub in_none : {A : Type 0} (x : A) → Contains [] x → ⊥
in_none x among = absurd (omega (arith, among.1))

-- what a test lets through of a list
passed : (p : ℕ → Bool) (l : List ℕ) (x : ℕ) → Contains (filter p l) x → Contains l x × (p x ≡ true)
passed p [] x among = absurd (in_none x among)
passed p (y ∷ l) x among = by (p y) refl among (passed p l x)
  where
    later : Contains l x × (p x ≡ true) → Contains (y ∷ l) x × (p x ≡ true)
    later (there, so) = ((suc there.0, omega (arith, there.1), there.2), so)

    by : (t : Bool) → p y ≡ t → Contains (cond t (y ∷ filter p l) (filter p l)) x
        → (Contains (filter p l) x → Contains l x × (p x ≡ true)) → Contains (y ∷ l) x × (p x ≡ true)
    by true so (zero, lt, is) rest = ((zero, omega arith, is), subst (λ (n : ℕ). p n ≡ true) is so)
    by true so (suc k, lt, is) rest = later (rest (k, omega (arith, lt), is))
    by false so there rest = later (rest there)

passes : (p : ℕ → Bool) (l : List ℕ) (x : ℕ) → Contains l x → p x ≡ true → Contains (filter p l) x
passes p [] x among so = absurd (in_none x among)
passes p (y ∷ l) x (zero, lt, is) so = subst (λ (t : Bool). Contains (cond t (y ∷ filter p l) (filter p l)) x) (sym (ap p is ∙ so)) (zero, omega arith, is)
passes p (y ∷ l) x (suc k, lt, is) so = by (p y) (passes p l x (k, omega (arith, lt), is) so)
  where
    by : (t : Bool) → Contains (filter p l) x → Contains (cond t (y ∷ filter p l) (filter p l)) x
    by true (j, less, at) = (suc j, omega (arith, less), at)
    by false there = there

-- what one of the parts of a list of lists has
pub record InPart {A : Type 0} (f : ℕ → List A) (l : List ℕ) (x : A) : Type 0 where
  pub item : ℕ
  pub there : Contains l item
  pub has : Contains (f item) x

pub in_part : {A : Type 0} (f : ℕ → List A) (l : List ℕ) (x : A) → Contains (flat_map f l) x → InPart f l x
in_part f [] x among = absurd (in_none x among)
in_part f (y ∷ l) x among = ⊎_elim
    (λ here. record { item = y; there = (zero, omega arith, refl); has = here })
    (λ later.
    let it = in_part f l x later in
    record { item = it.item; there = (suc it.there.0, omega (arith, it.there.1), it.there.2); has = it.has })
    (Contains-append_cases (f y) (flat_map f l) x among)

of_part : {A : Type 0} (f : ℕ → List A) (l : List ℕ) (item : ℕ) (x : A) → Contains l item → Contains (f item) x → Contains (flat_map f l) x
of_part f [] item x there has = absurd (in_none item there)
of_part {A} f (y ∷ l) item x (zero, lt, is) has = Contains-append_left (f y) (flat_map f l) x (subst (λ (n : ℕ). Contains (f n) x) (sym is) has)
of_part f (y ∷ l) item x (suc k, lt, is) has = Contains-append_right (f y) (flat_map f l) x (of_part f l item x (k, omega (arith, lt), is) has)

-- one of three lists has it
pub record InThree {A : Type 0} (f : ℕ → List A) (x : A) : Type 0 where
  pub place : ℕ
  pub within : place < 3
  pub has : Contains (f place) x

abbrev three : {A : Type 0} → (ℕ → List A) → List A
three f = f 0 ++ f 1 ++ f 2

pub in_three : {A : Type 0} (f : ℕ → List A) (x : A) → Contains (three f) x → InThree f x
in_three f x among = ⊎_elim
    (λ front. ⊎_elim
    (λ here. record { place = 0; within = omega arith; has = here })
    (λ here. record { place = 1; within = omega arith; has = here })
    (Contains-append_cases (f 0) (f 1) x front))
    (λ here. record { place = 2; within = omega arith; has = here })
    (Contains-append_cases (f 0 ++ f 1) (f 2) x among)

of_three : {A : Type 0} (f : ℕ → List A) (place : ℕ) (x : A) → place < 3 → Contains (f place) x → Contains (three f) x
of_three f zero x within has = Contains-append_left (f 0 ++ f 1) (f 2) x (Contains-append_left (f 0) (f 1) x has)
of_three f (suc zero) x within has = Contains-append_left (f 0 ++ f 1) (f 2) x (Contains-append_right (f 0) (f 1) x has)
of_three f (suc (suc zero)) x within has = Contains-append_right (f 0 ++ f 1) (f 2) x has
of_three f (suc (suc (suc place))) x within has = absurd (omega (arith, within))

-- ---- the first holder

any_below : (p : ℕ → Bool) (a n place : ℕ) → a ≤ place → place < a + n → p place ≡ true → list_any p (range_with_len a n) ≡ true
any_below p a zero place le lt so = absurd (omega (arith, le, lt))
any_below p a (suc n) place le lt so = by (p a) refl (λ less. any_below p (a + 1) n place (omega (arith, less)) (omega (arith, lt)) so)
  where
    by : (t : Bool) → p a ≡ t → (a < place → list_any p (range_with_len (a + 1) n) ≡ true) → t || list_any p (range_with_len (a + 1) n) ≡ true
    by true is rest = refl
    by false is rest = ⊎_elim
        rest
        (λ same. let one : place ≡ a = omega (arith, le, same) in absurd (let it : false ≡ true = sym is ∙ sym (ap p one) ∙ so in cc))
        (cases_lt a place)

none_below : (p : ℕ → Bool) (a n : ℕ) → ((place : ℕ) → a ≤ place → place < a + n → p place ≡ false) → list_any p (range_with_len a n) ≡ false
none_below p a zero none = refl
none_below p a (suc n) none =
    ap (λ (t : Bool). t || list_any p (range_with_len (a + 1) n)) (none a (omega arith) (omega arith))
    ∙ none_below p (a + 1) n (λ place le lt. none place (omega (arith, le)) (omega (arith, lt)))

-- ---- which orders they are

pub one_copy : (view : View) (from local to : ℕ) (order : CopyOrder) → Contains (copy_to view from local to) order
    → (is_lacking_at view local to ≡ true) × (order_of view from local to ≡ order)
one_copy view from local to order among = by (is_lacking_at view local to) refl among
  where
    by : (t : Bool) → is_lacking_at view local to ≡ t → Contains (cond t (order_of view from local to ∷ []) []) order
        → (is_lacking_at view local to ≡ true) × (order_of view from local to ≡ order)
    by true so (zero, lt, is) = (so, is)
    by true so (suc k, lt, is) = absurd (omega (arith, lt))
    by false so there = absurd (in_none order there)

a_copy : (view : View) (from local to : ℕ) → is_lacking_at view local to ≡ true → Contains (copy_to view from local to) (order_of view from local to)
a_copy view from local to so =
    let order = order_of view from local to in
    subst (λ (t : Bool). Contains (cond t (order ∷ []) []) order) (sym so) (zero, omega arith, refl)

-- from one source
pub record IsFrom (view : View) (from : ℕ) (order : CopyOrder) : Type 0 where
  pub to : ℕ
  pub local : ℕ
  pub target_within : to < 3
  pub held : Contains (held_at view from) local
  pub source : is_source_at view local from ≡ true
  pub lacking : is_lacking_at view local to ≡ true
  pub is : order_of view from local to ≡ order

pub listed_from : (view : View) (from : ℕ) (order : CopyOrder) → Contains (copies_from view from) order → IsFrom view from order
unfolding copies_from
listed_from view from order among =
    let part = in_part (copies_of view from) (filter (λ local. is_source_at view local from) (held_at view from)) order among in
    let has = passed (λ local. is_source_at view local from) (held_at view from) part.item part.there in
    let to = in_three (copy_to view from part.item) order part.has in
    let copy = one_copy view from part.item to.place order to.has in
    record { to = to.place; local = part.item; target_within = to.within; held = has.0; source = has.1; lacking = copy.0; is = copy.1 }

from_listed : (view : View) (from local to : ℕ) → to < 3 → Contains (held_at view from) local
    → is_source_at view local from ≡ true → is_lacking_at view local to ≡ true → Contains (copies_from view from) (order_of view from local to)
unfolding copies_from
from_listed view from local to within held source lacking =
    of_part (copies_of view from) (filter (λ local. is_source_at view local from) (held_at view from)) local (order_of view from local to)
    (passes (λ local. is_source_at view local from) (held_at view from) local held source)
    (of_three (copy_to view from local) to (order_of view from local to) within (a_copy view from local to lacking))

-- ---- a source by its test, and by what it is

record IsSource (view : View) (local from : ℕ) : Type 0 where
  unlogged : Contains view.logged local → ⊥
  holds : HoldsAt view local from
  first : (place : ℕ) → place < from → HoldsAt view local place → ⊥

source_is : (view : View) (local from : ℕ) → is_source_at view local from ≡ true → IsSource view local from
source_is view local from is =
    let outer = and_parts (not (is_among view.logged local) && not
    (list_any (is_holder_at view local) (range_with_len 0 from))) (is_holder_at view local from) is in
    let inner = and_parts (not (is_among view.logged local)) (not (list_any (is_holder_at view local) (range_with_len 0 from))) outer.0 in
    record {
      unlogged = not_among view.logged local (not-true (is_among view.logged local) inner.0);
      holds = holds_at view local from outer.1;
      first = λ place lt at.
          let any = any_below (is_holder_at view local) 0 from place (omega arith) (omega (arith, lt)) (is_holder view local place at) in
          let none = not-true (list_any (is_holder_at view local) (range_with_len 0 from)) inner.1 in
          let wrong : false ≡ true = sym none ∙ any in cc;
    }

is_source : (view : View) (local from : ℕ) → IsSource view local from → is_source_at view local from ≡ true
is_source view local from it =
    let none = none_below (is_holder_at view local) 0 from
    (λ place le lt. false_from_ne_true (is_holder_at view local place)
    (λ is. it.first place (omega (arith, lt)) (holds_at view local place is))) in
    and_from (not (is_among view.logged local) && not (list_any (is_holder_at view local) (range_with_len 0 from))) (is_holder_at view local from)
    (and_from (not (is_among view.logged local)) (not (list_any (is_holder_at view local) (range_with_len 0 from)))
    (not_from_false (is_among view.logged local) (is_not_found view.logged local it.unlogged))
    (not_from_false (list_any (is_holder_at view local) (range_with_len 0 from)) none))
    (is_holder view local from it.holds)

-- ---- so they are the due ones

module _ (view : View) (three_members : length view.members ≡ 3) (three_up : length view.up ≡ 3) where
  member_at : (place : ℕ) → place < 3 → slice_get view.members place ≡ Some (get_or view.members place 0)
  member_at place within = slice_get-get_or view.members place 0 (omega (arith, within, three_members))

  pub are_due : may_be_copied view.state ≡ true → (order : CopyOrder) → Contains (copies view) order ↔ IsDueCopy view order
  are_due copied order = (due, listed)
    where
      due : Contains (copies view) order → IsDueCopy view order
      due among =
          let from = in_three (copies_from view) order among in
          let it = listed_from view from.place order from.has in
          let source = source_is view it.local from.place it.source in
          subst (IsDueCopy view) it.is
          (record {
            copied = copied;
            unlogged = source.unlogged;
            from = from.place;
            source = member_at from.place from.within;
            holds = source.holds;
            first = source.first;
            to = it.to;
            target = member_at it.to it.target_within;
            lacks = lacks_at view it.local it.to it.lacking;
          })

      listed : IsDueCopy view order → Contains (copies view) order
      listed it =
          let from_lt = slice_get_within view.up it.from true it.holds.up in
          let to_lt = slice_get_within view.up it.to true it.lacks.up in
          let source : get_or view.members it.from 0 ≡ order.source = get_or_from_slice_get view.members it.from order.source 0 it.source in
          let target : get_or view.members it.to 0 ≡ order.target = get_or_from_slice_get view.members it.to order.target 0 it.target in
          let same : order_of view it.from order.local it.to ≡ order = λ i. record { source = source i; target = target i; local = order.local } in
          subst (Contains (copies view)) same
          (of_three (copies_from view) it.from (order_of view it.from order.local it.to) (omega (arith, from_lt, three_up))
          (from_listed view it.from order.local it.to (omega (arith, to_lt, three_up)) it.holds.held
          (is_source view order.local it.from (record { unlogged = it.unlogged; holds = it.holds; first = it.first }))
          (is_lacking view order.local it.to it.lacks)))

  pub due_ones : (order : CopyOrder) → Contains (cond (may_be_copied view.state) (copies view) []) order ↔ IsDueCopy view order
  due_ones order = by (may_be_copied view.state) refl
    where
      by : (t : Bool) → may_be_copied view.state ≡ t → Contains (cond t (copies view) []) order ↔ IsDueCopy view order
      by true copied = are_due copied order
      by false not = (λ among. absurd (in_none order among), λ due. absurd (let wrong : false ≡ true = sym not ∙ due.copied in cc))
