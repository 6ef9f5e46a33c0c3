-- The copies that are due by a view may be made; and where each of them may be left, no other is due.
use Rattle.std.proofs.Common.{◌≡◌, ⊎_elim, ◌⊎◌, inl, inr, ℕ, zero, suc, ◌<◌, Bool, true, false, ◌&&◌, ◌||◌, ◌==◌, cond}
use Rattle.std.proofs.Common.{List, [], ◌∷◌, fold, Option, None, Some, refl, sym, ◌∙◌, ap, subst, arith}
use Rattle.std.proofs.lemmas.Bool.{and_from, and_parts, eq-eqb, eqb-true}
use Rattle.std.proofs.lemmas.Cmp.{nat_cmp_total}
use Rattle.std.proofs.lemmas.Option.{same_Some}
use Rattle.std.specs.Cmp.{unsigned_ties}
use Rattle.std.specs.FinMap.{get, insert, get-insert}
use Rattle.std.specs.List.{slice_get}
use Rattle.std.specs.Option.{option_map_or}
use Rattle.std.specs.Ordering.{nat_cmp, eq_by_cmp}
use Rattle.oz_fields.specs.declared.block.Block.{Block}
use Rattle.oz_requests.specs.declared.request.AskId.{AskId}
use Rattle.oz_core.specs.declared.event.Event.{Event}
use Rattle.oz_core.specs.declared.event.EventKind.{EventKind}
use Rattle.oz_core.specs.declared.event.EventKind.TheVariants as kinds
use Rattle.oz_core.specs.declared.opening.Container.{Container}
use Rattle.oz_core.specs.declared.opening.Opening.{Opening}
use Rattle.oz_core.specs.Due.{IsCopyDue, MayBeLeft}
use Rattle.oz_core.specs.Law.{CopyIsEnabled, comes_to_copies, may_be_copied, was_copied}
use Rattle.oz_core.specs.Nodes.{holds, is_running}
use Rattle.oz_core.specs.Scm.{Containers, come_to, containers, containers_after, granted_in, is_logged, is_up}
use Rattle.oz_core.specs.Seats.{IsDatanodeSeat}
use Rattle.oz_core.specs.Stories.{has_event}
use Rattle.oz_kept.specs.laws.Contents.{holder_got}
use Rattle.oz_repl.specs.declared.repl.view.CopyOrder.{CopyOrder}
use Rattle.oz_repl.specs.declared.repl.view.View.{View}
use Rattle.oz_repl.specs.repl.View.{IsDueCopy}
use Rattle.oz_repl.specs.views.View.{IsViewOf, block_in}
use Rattle.oz_repl.specs.views.laws.Shown.{held_here, its_block, member_at, not_logged, not_true, place_of, up_at, who_is_up}

-- ---- how a container came to a state

abbrev copied_in : Containers → ℕ → Bool
copied_in all number = option_map_or (λ (container : Container). may_be_copied container.state) (get all number) false

found : (all : Containers) (at : ℕ) (new : Container) (number : ℕ) → get (insert all at new) number ≡ cond
    (eq_by_cmp nat_cmp number at) (Some new) (get all number)
found all at new number = get-insert nat_cmp_total all at new number

-- one event
came_by : (all : Containers) (number : ℕ) (kind : EventKind) → copied_in (containers_after all kind) number ≡ true
    → (comes_to_copies number kind ≡ true) ⊎ (copied_in all number ≡ true)
came_by all number (kinds.Grant stripe at pipeline first count) e =
    by (eq_by_cmp nat_cmp number at) refl
    (sym (ap (λ (o : Option Container). option_map_or (λ (container : Container). may_be_copied container.state) o
    false) (found all at (granted_in (get all at) pipeline count) number)) ∙ e)
  where
    here : (o : Option Container) → may_be_copied (granted_in o pipeline count).state ≡ true
        → option_map_or (λ (container : Container). may_be_copied container.state) o false ≡ true
    here None e = absurd cc
    here (Some container) e = e

    by : (t : Bool) → eq_by_cmp nat_cmp number at ≡ t
        → option_map_or (λ (container : Container). may_be_copied container.state)
        (cond t (Some (granted_in (get all at) pipeline count)) (get all number)) false ≡ true
        → (false ≡ true) ⊎ (copied_in all number ≡ true)
    by false other e = inr e
    by true same e =
        let is : number ≡ at = eqb-true number at (unsigned_ties number at ∙ same) in
        inr (subst (λ (n : ℕ). copied_in all n ≡ true) (sym is) (here (get all at) e))
came_by all number (kinds.Closed at state) e = by (get all at) refl e
  where
    came : (container : Container) → get all at ≡ Some container → (t : Bool) → eq_by_cmp nat_cmp number at ≡ t
        → option_map_or (λ (container : Container). may_be_copied container.state)
        (cond t (Some (record container { state = state })) (get all number)) false ≡ true
        → ((at == number && may_be_copied state) ≡ true) ⊎ (copied_in all number ≡ true)
    came container is false other e = inr e
    came container is true same e =
        let one : number ≡ at = eqb-true number at (unsigned_ties number at ∙ same) in
        inl (and_from (at == number) (may_be_copied state) (eq-eqb at number (sym one)) e)

    by : (o : Option Container) → get all at ≡ o → copied_in (come_to all at state o) number ≡ true
        → ((at == number && may_be_copied state) ≡ true) ⊎ (copied_in all number ≡ true)
    by None is e = inr e
    by (Some container) is e =
        came container is (eq_by_cmp nat_cmp number at) refl
        (sym (ap (λ (o : Option Container). option_map_or (λ (container : Container). may_be_copied container.state) o
        false) (found all at (record container { state = state }) number)) ∙ e)
came_by all number kind e = inr e

came_from : (number : ℕ) (story : List Event) (all : Containers)
    → copied_in (fold (λ before (event : Event). containers_after before event.kind) all story) number ≡ true
    → (has_event (comes_to_copies number) story ≡ true) ⊎ (copied_in all number ≡ true)
came_from number [] all e = inr e
came_from number (event ∷ story) all e = ⊎_elim
    (λ later. inl (or_later (comes_to_copies number event.kind) later))
    (λ now. ⊎_elim
    (λ here. inl (ap (λ (t : Bool). t || has_event (comes_to_copies number) story) here))
    (λ before. inr before)
    (came_by all number event.kind now))
    (came_from number story (containers_after all event.kind) e)
  where
    or_later : (t : Bool) → has_event (comes_to_copies number) story ≡ true → t || has_event (comes_to_copies number) story ≡ true
    or_later true e = refl
    or_later false e = e

pub container_came : (opening : Opening) (story : List Event) (number : ℕ) (container : Container)
    → get (containers opening story) number ≡ Some container → may_be_copied container.state ≡ true
    → (has_event (comes_to_copies number) story ≡ true) ⊎ (was_copied opening number ≡ true)
container_came opening story number container made copied =
    came_from number story opening.containers
    (ap (λ (o : Option Container). option_map_or (λ (container : Container). may_be_copied container.state) o false) made ∙ copied)

-- ---- the first of a list that passes

record IsFirst (p : ℕ → Bool) (l : List ℕ) : Type 0 where
  place : ℕ
  item : ℕ
  at : slice_get l place ≡ Some item
  so : p item ≡ true
  none : (earlier other : ℕ) → earlier < place → slice_get l earlier ≡ Some other → p other ≡ false

first_of : (p : ℕ → Bool) (l : List ℕ) (place item : ℕ) → slice_get l place ≡ Some item → p item ≡ true → IsFirst p l
first_of p [] place item at so = absurd cc
first_of p (x ∷ l) place item at so = by (p x) refl place at (λ place at. first_of p l place item at so)
  where
    by : (t : Bool) → p x ≡ t → (place : ℕ) → slice_get (x ∷ l) place ≡ Some item
        → ((place : ℕ) → slice_get l place ≡ Some item → IsFirst p l) → IsFirst p (x ∷ l)
    by true is place at rest = record { place = zero; item = x; at = refl; so = is; none = λ earlier other lt there. absurd (omega (arith, lt)) }
    by false is zero at rest = absurd (let same = same_Some x item at in let wrong : false ≡ true = sym is ∙ ap p same ∙ so in cc)
    by false is (suc place) at rest =
        let it = rest place at in
        record { place = suc it.place; item = it.item; at = it.at; so = it.so; none = before it.place it.none }
      where
        before : (n : ℕ) → ((earlier other : ℕ) → earlier < n → slice_get l earlier ≡ Some other → p other ≡ false)
            → (earlier other : ℕ) → earlier < suc n → slice_get (x ∷ l) earlier ≡ Some other → p other ≡ false
        before n none zero other lt there = ap p (sym (same_Some x other there)) ∙ is
        before n none (suc earlier) other lt there = none earlier other (omega (arith, lt)) there

-- ---- orders

module _ (opening : Opening) (story : List Event) (number : ℕ) (view : View) (is : IsViewOf opening story number view) where
  pub may_copy : (order : CopyOrder) (seat : ℕ) → IsDueCopy view order → IsDatanodeSeat opening order.target seat → is_running order.target story ≡ true
      → CopyIsEnabled opening story seat order.source order.target (block_in number order.local)
  may_copy order seat due of_target runs =
      let holder = who_is_up opening story number view is due.from due.holds.up in
      let lacker = who_is_up opening story number view is due.to due.lacks.up in
      let source : holder.dn ≡ order.source = same_Some holder.dn order.source (sym holder.at ∙ due.source) in
      let target : lacker.dn ≡ order.target = same_Some lacker.dn order.target (sym lacker.at ∙ due.target) in
      let up = subst (λ (dn : ℕ). is_up dn story ≡ true) source holder.up in
      let target_up = subst (λ (dn : ℕ). is_up dn story ≡ true) target lacker.up in
      let held = (held_here opening story number view is due.from order.source due.source up order.local).0 due.holds.held in record {
        of_target = of_target;
        runs = runs;
        lacks = not_true (holds opening story order.target (block_in number order.local)) (λ has.
            due.lacks.lacking ((held_here opening story number view is due.to order.target due.target target_up order.local).1 has));
        from_member = member_at opening story number view is due.from order.source due.source;
        to_member = member_at opening story number view is due.to order.target due.target;
        had = holder_got opening story (block_in number order.local) order.source held;
        quasi_closed_or_closed = container_came opening story number is.container is.made (ap may_be_copied (sym is.state) ∙ due.copied);
        unlogged = not_logged opening story number view is due.from order.source order.local due.source up held due.unlogged;
      }

  -- each copy that is due by the story is one by the view, from its first holder
  pub is_due : may_be_copied view.state ≡ true → (block : Block) (lacking : ℕ) → IsCopyDue opening story number block
      lacking → (source : ℕ) × IsDueCopy view (record { source = source; target = lacking; local = block.local })
  is_due copied block lacking due =
      let same = its_block number block due.of_container in
      let source = place_of opening story number view is due.source due.source_member in
      let first = first_of (λ dn. is_up dn story && holds opening story dn block) view.members source.place due.source source.at
      (and_from (is_up due.source story) (holds opening story due.source block) due.source_up due.held) in
      let both = and_parts (is_up first.item story) (holds opening story first.item block) first.so in
      let to = place_of opening story number view is lacking due.member in (
        first.item,
        record {
          copied = copied;
          unlogged = λ there.
              let wrong : false ≡ true = sym due.unlogged ∙ ap (is_logged opening story) (sym same) ∙ is.logged block.local there in
              cc;
          from = first.place;
          source = first.at;
          holds = record {
            up = up_at opening story number view is first.place first.item first.at ∙ ap Some both.0;
            held = (held_here opening story number view is first.place first.item first.at both.0 block.local).1
                (ap (holds opening story first.item) same ∙ both.1);
          };
          first = λ place lt at.
              let who = who_is_up opening story number view is place at.up in
              let held = (held_here opening story number view is place who.dn who.at who.up block.local).0 at.held in
              let passes = and_from (is_up who.dn story) (holds opening story who.dn block) who.up (ap (holds opening story who.dn) (sym same) ∙ held) in
              let wrong : false ≡ true = sym (first.none place who.dn lt who.at) ∙ passes in
              cc;
          to = to.place;
          target = to.at;
          lacks = record {
            up = up_at opening story number view is to.place lacking to.at ∙ ap Some due.up;
            lacking = λ there.
                let held = (held_here opening story number view is to.place lacking to.at due.up block.local).0 there in
                let wrong : false ≡ true = sym due.lacks ∙ ap (holds opening story lacking) (sym same) ∙ held in
                cc;
          };
        },
      )

  pub may_leave : (id : AskId) → ((order : CopyOrder) → IsDueCopy view order → MayBeLeft opening story id number (block_in number order.local) order.target)
      → may_be_copied view.state ≡ true → (block : Block) (lacking : ℕ) → IsCopyDue opening story number block lacking
      → MayBeLeft opening story id number block lacking
  may_leave id each copied block lacking due =
      let it = is_due copied block lacking due in
      subst (λ (b : Block). MayBeLeft opening story id number b lacking) (its_block number block due.of_container)
      (each (record { source = it.0; target = lacking; local = block.local }) it.1)
