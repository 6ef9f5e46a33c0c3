-- Who is up behind the Downs of datanodes that have halted.
use Rattle.std.proofs.Common.{◌≡◌, ◌≢◌, ℕ, zero, suc, ◌+◌, ◌<◌, ◌≤◌, Bool, true, false, ◌&&◌, ◌==◌, cond, List, [], ◌∷◌, ◌++◌, length, map, filter, take, drop, slice_get, slice_set, Option, None, Some, Result, Ok, Err, OnErr, OnOk, is_none, eq-eqb, refl, sym, ap, ◌∙◌, subst, append_assoc, append-nil, arith}
use Rattle.std.proofs.lemmas.Bool.{ne_eqb}
use Rattle.std.proofs.lemmas.List.{map-append}
use Rattle.std.proofs.lemmas.List.Elements.{filter-append}
use Rattle.std.proofs.lemmas.List.Sums.{fold-append}
use Rattle.std.specs.List.{AllZip}
use Rattle.oz_core.specs.declared.event.Event.{Event}
use Rattle.oz_core.specs.declared.event.Node.TheVariants.{Datanode}
use Rattle.oz_core.specs.Manager.{halt_of}
use Rattle.oz_core.specs.Nodes.{is_running, stopped_or_started}
use Rattle.oz_core.specs.Scm.{is_up, up_or_down}
use Rattle.oz_core.specs.Stories.{last_told, newer}
use Rattle.oz_datanode.specs.Datanode.{State, is_halted}
use Rattle.oz_node_events.specs.NodeSeat.{SeatView}
use Rattle.oz_replicas.specs.Cells.{AreInOrder, CellView}
use Rattle.oz_scm.specs.Scm.{State as Manager}
use Rattle.oz_scm_events.specs.Kept.{ScmView}
use Rattle.oz_scm_events.specs.Tracked.{IsTracked}
use Rattle.oz_turn.specs.Told.{BeginsWith}
use Rattle.oz_service.specs.AllLocked.{AllView, node_shown}
use Rattle.oz_service.specs.TakenDown.{HaltedAreDown, HasSeenMore, OnlyTookDown, ToldDowns, down_event, is_left_up, left_up}
use Rattle.oz_service.proofs.Zipped.{zip_get, zip_set}

pub begins_through : (a b c : List Event) → BeginsWith a b → BeginsWith b c → BeginsWith a c
begins_through a b c first then = (then.0 ++ first.0, first.1 ∙ (ap (λ (l : List Event). l ++ first.0) then.1 ∙ append_assoc c then.0 first.0))

pub begins_itself : (a : List Event) → BeginsWith a a
begins_itself a = ([], sym (append-nil a))

-- ---- the first of a list

suc_is : (n : ℕ) → suc n ≡ n + 1
suc_is n = omega arith

module _ {A : Type 0} where
  same_some : {x y : A} → Some x ≡ Some y → x ≡ y
  same_some e = cc

  take_suc : (xs : List A) (n : ℕ) (x : A) → slice_get xs n ≡ Some x → take (suc n) xs ≡ take n xs ++ x ∷ []
  take_suc [] n x at = absurd cc
  take_suc (y ∷ xs) zero x at = ap (λ (z : A). z ∷ []) (same_some at)
  take_suc (y ∷ xs) (suc n) x at = ap (λ (l : List A). y ∷ l) (take_suc xs n x at)

  pub take_next : (xs : List A) (n : ℕ) (x : A) → slice_get xs n ≡ Some x → take (n + 1) xs ≡ take n xs ++ x ∷ []
  take_next xs n x at = subst (λ (k : ℕ). take k xs ≡ take n xs ++ x ∷ []) (suc_is n) (take_suc xs n x at)

  pub take_parts : (xs : List A) (n : ℕ) → xs ≡ take n xs ++ drop n xs
  take_parts [] zero = refl
  take_parts [] (suc n) = refl
  take_parts (x ∷ xs) zero = refl
  take_parts (x ∷ xs) (suc n) = ap (λ (l : List A). x ∷ l) (take_parts xs n)

  pub take_whole : (xs : List A) (n : ℕ) → length xs ≤ n → take n xs ≡ xs
  take_whole [] zero past = refl
  take_whole [] (suc n) past = refl
  take_whole (x ∷ xs) zero past = absurd (omega (arith, past))
  take_whole (x ∷ xs) (suc n) past = ap (λ (l : List A). x ∷ l) (take_whole xs n (omega (arith, past)))

  taken_at : (xs : List A) (n place : ℕ) (x : A) → slice_get (take n xs) place ≡ Some x → (place < n) × (slice_get xs place ≡ Some x)
  taken_at [] zero place x at = absurd cc
  taken_at [] (suc n) place x at = absurd cc
  taken_at (y ∷ xs) zero place x at = absurd cc
  taken_at (y ∷ xs) (suc n) zero x at = (omega arith, at)
  taken_at (y ∷ xs) (suc n) (suc place) x at = let rest = taken_at xs n place x at in (omega (arith, rest.0), rest.1)

-- ---- who is up behind Downs

both : (a b : Bool) → a ≡ true → b ≡ true → (a && b) ≡ true
both a b one other = ap (λ (t : Bool). t && b) one ∙ other

not_false : (t : Bool) → t ≢ false → t ≡ true
not_false true apart = refl
not_false false apart = absurd (apart refl)

false_picked : (t : Bool) → newer (cond t (Some false) None) false ≡ false
false_picked true = refl
false_picked false = refl

own_picked : (b t : Bool) → t ≡ true → newer (cond t (Some false) None) b ≡ false
own_picked b t is = ap (λ (u : Bool). newer (cond u (Some false) None) b) is

other_picked : (b t : Bool) → t ≡ false → newer (cond t (Some false) None) b ≡ b
other_picked b t is = ap (λ (u : Bool). newer (cond u (Some false) None) b) is

-- who was taken so before these Downs is taken so behind them
abbrev behind : ℕ → Bool → List ℕ → Bool
behind dn before downs = last_told (up_or_down dn) before (map down_event downs)

up_behind : (dn : ℕ) (mine : List Event) (downs : List ℕ) → is_up dn (mine ++ map down_event downs) ≡ behind dn (is_up dn mine) downs
up_behind dn mine downs = fold-append (λ told (event : Event). newer (up_or_down dn event.kind) told) true mine (map down_event downs)

down_behind : (dn : ℕ) (downs : List ℕ) → behind dn false downs ≡ false
down_behind dn [] = refl
down_behind dn (other ∷ downs) = ap (λ (b : Bool). behind dn b downs) (false_picked (other == dn)) ∙ down_behind dn downs

abbrev Cell : Type 0 → Type 0
Cell D = CellView D SeatView

abbrev with_up : {D : Type 0} → Manager D → List Bool → Manager D
with_up scm up = record scm { up = up }

module _ {D : Type 0} where
  abbrev ids : List (State D) → List ℕ
  ids nodes = map (λ (node : State D). node.id) nodes

  abbrev states : List (Cell D) → List (State D)
  states cells = map (λ (cell : Cell D). cell.node) cells

  abbrev one_of : Bool → State D → List ℕ
  one_of t node = ids (cond t (node ∷ []) [])

  left_append : (mine : List Event) (xs ys : List (Cell D)) → left_up mine (xs ++ ys) ≡ left_up mine xs ++ left_up mine ys
  left_append mine xs ys =
      ap (λ (l : List (State D)). ids (filter (is_left_up mine) l)) (map-append (λ (cell : Cell D). cell.node) xs ys)
      ∙ (ap ids (filter-append (is_left_up mine) (states xs) (states ys))
      ∙ map-append (λ (node : State D). node.id) (filter (is_left_up mine) (states xs)) (filter (is_left_up mine) (states ys)))

  -- one who isn't among them is as before
  untouched : (dn : ℕ) (mine : List Event) (cells : List (Cell D)) (before : Bool)
      → ((place : ℕ) (cell : Cell D) → slice_get cells place ≡ Some cell → cell.node.id ≢ dn) → behind dn before (left_up mine cells) ≡ before
  untouched dn mine [] before apart = refl
  untouched dn mine (cell ∷ cells) before apart =
      by (is_left_up mine cell.node) (untouched dn mine cells before (λ place other at. apart (suc place) other at))
    where
      by : (t : Bool) → behind dn before (left_up mine cells) ≡ before
          → behind dn before (ids (cond t (cell.node ∷ filter (is_left_up mine) (states cells)) (filter (is_left_up mine) (states cells)))) ≡ before
      by true rest = ap (λ (b : Bool). behind dn b (left_up mine cells)) (other_picked before (cell.node.id == dn) (ne_eqb cell.node.id dn (apart 0 cell refl))) ∙ rest
      by false rest = rest

  -- one who had halted and was up is down
  halted_behind : (dn : ℕ) (mine : List Event) (cells : List (Cell D)) (place : ℕ) (cell : Cell D) (before : Bool) → slice_get cells place ≡ Some cell
      → is_halted cell.node ≡ true → is_up cell.node.id mine ≡ true → cell.node.id ≡ dn → behind dn before (left_up mine cells) ≡ false
  halted_behind dn mine [] place cell before at halted up its = absurd cc
  halted_behind dn mine (x ∷ cells) zero cell before at halted up its =
      ap (λ (t : Bool). behind dn before (ids (cond t (x.node ∷ filter (is_left_up mine) (states cells)) (filter (is_left_up mine) (states cells)))))
      (ap (λ (c : Cell D). is_left_up mine c.node) same ∙ both (is_halted cell.node) (is_up cell.node.id mine) halted up)
      ∙ (ap (λ (b : Bool). behind dn b (left_up mine cells)) (own_picked before (x.node.id == dn) (eq-eqb x.node.id dn (ap (λ (c : Cell D). c.node.id) same ∙ its)))
      ∙ down_behind dn (left_up mine cells))
    where
      same : x ≡ cell
      same = same_some at
  halted_behind dn mine (x ∷ cells) (suc place) cell before at halted up its =
      by (is_left_up mine x.node) (λ b. halted_behind dn mine cells place cell b at halted up its)
    where
      by : (t : Bool) → ((b : Bool) → behind dn b (left_up mine cells) ≡ false) → behind dn before (ids (cond t (x.node ∷ filter (is_left_up mine) (states cells)) (filter (is_left_up mine) (states cells)))) ≡ false
      by true rest = rest (newer (cond (x.node.id == dn) (Some false) None) before)
      by false rest = rest before

  all_down : (mine : List Event) (cells : List (Cell D)) (place : ℕ) (cell : Cell D) → slice_get cells place ≡ Some cell → is_halted cell.node ≡ true
      → is_up cell.node.id (mine ++ map down_event (left_up mine cells)) ≡ false
  all_down mine cells place cell at halted = up_behind cell.node.id mine downs ∙ by (is_up cell.node.id mine) refl
    where
      downs : List ℕ
      downs = left_up mine cells

      by : (t : Bool) → is_up cell.node.id mine ≡ t → behind cell.node.id (is_up cell.node.id mine) downs ≡ false
      by true up = halted_behind cell.node.id mine cells place cell (is_up cell.node.id mine) at halted up refl
      by false down = ap (λ (b : Bool). behind cell.node.id b downs) down ∙ down_behind cell.node.id downs

  -- ---- what is told of one, and of one more

  pub unhalted_one : (mine : List Event) (node : State D) → is_halted node ≡ false → [] ≡ one_of (is_left_up mine node) node
  unhalted_one mine node not = ap (λ (h : Bool). one_of (h && is_up node.id mine) node) (sym not)

  pub told_one : (mine after : List Event) (node : State D) (dn : ℕ) → node.id ≡ dn → is_halted node ≡ true → (changed : Bool)
      → IsTracked {E = Unit {0}} dn false mine after (Ok changed) → after ≡ mine ++ map down_event (one_of (is_left_up mine node) node)
  told_one mine after node dn number halted true told =
      told.1 ∙ (ap (λ (k : ℕ). mine ++ down_event k ∷ []) (sym number)
      ∙ ap (λ (t : Bool). mine ++ map down_event (one_of t node))
      (sym (both (is_halted node) (is_up node.id mine) halted (ap (λ (k : ℕ). is_up k mine) number ∙ not_false (is_up dn mine) told.0))))
  told_one mine after node dn number halted false told =
      told.1 ∙ (sym (append-nil mine) ∙ ap (λ (t : Bool). mine ++ map down_event (one_of t node))
      (sym (ap (λ (h : Bool). h && is_up node.id mine) halted ∙ (ap (λ (k : ℕ). is_up k mine) number ∙ told.0))))

  both_told : (first next : List ℕ) (s t u : ScmView D) → ToldDowns first s t → ToldDowns next t u → ToldDowns (first ++ next) s u
  both_told first next s t u one other = record {
    mine = other.mine ∙ (ap (λ (l : List Event). l ++ map down_event next) one.mine
        ∙ (append_assoc s.mine (map down_event first) (map down_event next) ∙ ap (λ (l : List Event). s.mine ++ l) (sym (map-append down_event first next))));
    scm = other.scm ∙ ap (λ (x : Manager D). with_up x u.scm.up) one.scm;
    room = other.room ∙ one.room;
    begins = begins_through u.seen t.seen s.seen other.begins one.begins;
  }

  pub none_more : (first : List ℕ) (s t u : ScmView D) → ToldDowns first s t → ToldDowns [] t u → ToldDowns first s u
  none_more first s t u one other = subst (λ (l : List ℕ). ToldDowns l s u) (append-nil first) (both_told first [] s t u one other)

  pub told_none : (s t : ScmView D) → t.scm ≡ record s.scm { up = t.scm.up } → t.mine ≡ s.mine → t.room ≡ s.room → BeginsWith t.seen s.seen → ToldDowns [] s t
  told_none s t scm mine room begins = record { mine = mine ∙ sym (append-nil s.mine); scm = scm; room = room; begins = begins }

  -- ---- the datanodes

  pub seen_itself : (cell : Cell D) → HasSeenMore cell cell
  seen_itself cell = record { same = refl; begins = begins_itself cell.kept.seen }

  pub seen_on : (a b c : Cell D) → HasSeenMore a b → HasSeenMore b c → HasSeenMore a c
  seen_on a b c first then = record {
    same = then.same ∙ ap (node_shown c.kept.seen) first.same;
    begins = begins_through c.kept.seen b.kept.seen a.kept.seen then.begins first.begins;
  }

  node_same : (a b : Cell D) → HasSeenMore a b → b.node ≡ a.node
  node_same a b more = ap (λ (c : Cell D). c.node) more.same

  -- one of them has seen more
  pub seen_set : (olds now : List (Cell D)) (n : ℕ) (cell new : Cell D) → AllZip HasSeenMore olds now → slice_get now n ≡ Some cell → HasSeenMore cell new
      → AllZip HasSeenMore olds (slice_set now n new)
  seen_set olds now n cell new seen at more =
      zip_set HasSeenMore olds now n new seen
      (λ old y got before. seen_on old y new before (subst (λ (z : Cell D). HasSeenMore z new) (same_some (sym at ∙ got)) more))

  module _ (olds : List (Cell D)) (order : AreInOrder olds) (s : ScmView D) where
    -- one datanode more
    pub next_told : (n : ℕ) (before cell : Cell D) (t u : ScmView D) → slice_get olds n ≡ Some before → HasSeenMore before cell
        → ToldDowns (left_up s.mine (take n olds)) s t → ToldDowns (left_up t.mine (cell ∷ [])) t u → ToldDowns (left_up s.mine (take (n + 1) olds)) s u
    next_told n before cell t u at more told one =
        subst (λ (l : List ℕ). ToldDowns l s u)
        (ap (λ (l : List ℕ). left_up s.mine (take n olds) ++ l) (sym same_one)
        ∙ (sym (left_append s.mine (take n olds) (before ∷ [])) ∙ ap (left_up s.mine) (sym (take_next olds n before at))))
        (both_told (left_up s.mine (take n olds)) (left_up t.mine (cell ∷ [])) s t u told one)
      where
        node : State D
        node = before.node

        as_before : is_up node.id t.mine ≡ is_up node.id s.mine
        as_before = ap (is_up node.id) told.mine ∙ (up_behind node.id s.mine (left_up s.mine (take n olds))
            ∙ untouched node.id s.mine (take n olds) (is_up node.id s.mine)
            (λ place other there its.
            let found = taken_at olds n place other there in
            absurd (omega (arith, its, order place other found.1, order n before at, found.0))))

        same_one : left_up s.mine (before ∷ []) ≡ left_up t.mine (cell ∷ [])
        same_one = sym (ap (λ (x : State D). one_of (is_left_up t.mine x) x) (node_same before cell more)
            ∙ ap (λ (u : Bool). one_of (is_halted node && u) node) as_before)

    pub only_took : (n : ℕ) (t : ScmView D) (news : List (Cell D)) → ToldDowns (left_up s.mine (take n olds)) s t → AllZip HasSeenMore olds news
        → OnlyTookDown (record { scm = s; nodes = olds }) (record { scm = t; nodes = news })
    only_took n t news told seen = record {
      downs = left_up s.mine (take n olds);
      rest = left_up s.mine (drop n olds);
      parts = ap (left_up s.mine) (take_parts olds n) ∙ left_append s.mine (take n olds) (drop n olds);
      scm = told;
      nodes = seen;
    }

    pub halted_down : (n : ℕ) (t : ScmView D) (news : List (Cell D)) → length olds ≤ n → ToldDowns (left_up s.mine (take n olds)) s t
        → AllZip HasSeenMore olds news → HaltedAreDown (record { scm = t; nodes = news })
    halted_down n t news past told seen place cell at halted =
        let found = zip_get HasSeenMore olds news place cell seen at in
        let before = found.0 in
        let node = node_same before cell found.2 in
        ap (λ (x : State D). is_up x.id t.mine) node
        ∙ (ap (is_up before.node.id) (told.mine ∙ ap (λ (l : List (Cell D)). s.mine ++ map down_event (left_up s.mine l)) (take_whole olds n past))
        ∙ all_down s.mine olds place before found.1 (sym (ap (λ (x : State D). is_halted x) node) ∙ halted))

abbrev view_of : ℕ → List Event → List Event → ℕ → List ℕ → SeatView
view_of dn seen mine room last = record { dn = dn; seen = seen; mine = mine; room = room; last = last }

-- a seat of which nothing is different but what it has seen
pub same_but_seen : (old new : SeatView) → new.dn ≡ old.dn → new.mine ≡ old.mine → new.room ≡ old.room → new.last ≡ old.last → new ≡ record old { seen = new.seen }
same_but_seen old new number mine room last =
    ap (λ (n : ℕ). view_of n new.seen new.mine new.room new.last) number
    ∙ (ap (λ (l : List Event). view_of old.dn new.seen l new.room new.last) mine
    ∙ (ap (λ (n : ℕ). view_of old.dn new.seen old.mine n new.last) room
    ∙ ap (λ (l : List ℕ). view_of old.dn new.seen old.mine old.room l) last))

-- a datanode that has halted doesn't run by its own events
pub halted_stands_still : (dn : ℕ) (mine : List Event) (halted : Bool) (count : ℕ) → halt_of (Datanode dn) mine ≡ cond halted (Some count) None → halted ≡ true
    → is_running dn mine ≡ false
halted_stands_still dn mine halted count told is =
    ap (λ (halt : Option ℕ). is_none halt && last_told (stopped_or_started dn) true mine) (told ∙ ap (λ (t : Bool). cond t (Some count) None) is)

pub on_ok : {A E P Q : Type 0} (result : Result A E) → (P → Q) → OnOk result P → OnOk result Q
on_ok (Ok value) from holds = from holds
on_ok (Err error) from holds = holds

pub on_err : {A E P Q : Type 0} (result : Result A E) → (P → Q) → OnErr result P → OnErr result Q
on_err (Ok value) from holds = holds
on_err (Err error) from holds = from holds

-- those whose seats have seen more are in order still
pub order_seen : {D : Type 0} (olds news : List (CellView D SeatView)) → AreInOrder olds → AllZip HasSeenMore olds news → AreInOrder news
order_seen {D} olds news order seen place cell at =
    let found = zip_get HasSeenMore olds news place cell seen at in
    ap (λ (x : CellView D SeatView). x.node.id) found.2.same ∙ order place found.0 found.1

abbrev all_of : {D : Type 0} → ScmView D → List (CellView D SeatView) → AllView D
all_of scm nodes = record { scm = scm; nodes = nodes }

-- what was taken down of these was taken down of all that they are a view of
pub took_before : {D : Type 0} {s t : ScmView D} {olds : List (CellView D SeatView)} {old new : AllView D} → s ≡ t → all_of t olds ≡ old
    → OnlyTookDown (all_of s olds) new → OnlyTookDown old new
took_before {D} {s} {t} {olds} {old} {new} same view took =
    subst (λ (all : AllView D). OnlyTookDown all new) view (subst (λ (scm : ScmView D). OnlyTookDown (all_of scm olds) new) same took)
