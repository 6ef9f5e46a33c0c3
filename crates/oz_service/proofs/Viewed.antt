-- What is shown of a container under all locks is what the story has of it.
use Rattle.std.specs.Prelude.{not, ◌&&◌, ◌==◌, IsTrue}
use Rattle.std.specs.Prelude.{All}
use Rattle.std.specs.List.{AllZip, list_any}
use Rattle.std.specs.List.Sorted.{IsStrictlyIncreasing}
use Rattle.std.specs.FinMap.{get}
use Rattle.std.specs.Option.{option_map, option_map_or}
use Rattle.std.proofs.Common.{◌≡◌, ◌⊎◌, ◌↔◌, inl, inr, ⊎_elim, ℕ, zero, suc, ◌<◌, Bool, true, false, List, [], ◌∷◌, length, map, get_or, slice_get}
use Rattle.std.proofs.Common.{cond, Option, None, Some, Contains, refl, sym, ◌∙◌, ap, subst, arith}
use Rattle.std.proofs.lemmas.Bool.{and_from, and_parts, eq-eqb, eqb-true, false_from_ne_true, false≢true}
use Rattle.std.proofs.lemmas.List.Folds.{Any-from_list_any, list_any-from_Any}
use Rattle.std.proofs.lemmas.Option.{same_Some, slice_get_cases}
use Rattle.oz_asker.specs.laws.Asks.{legal_of_follow}
use Rattle.oz_block.specs.Lists.{AreHeldIn}
use Rattle.oz_buffer.specs.declared.opened.Opened.{Ghosts as Run}
use Rattle.oz_container.specs.declared.state.State.{State as ReplicaState}
use Rattle.oz_core.specs.declared.event.Event.{Event}
use Rattle.oz_core.specs.declared.event.Node.TheVariants.{Scm}
use Rattle.oz_core.specs.declared.opening.Container.{Container}
use Rattle.oz_core.specs.declared.opening.Opening.{Opening}
use Rattle.oz_core.specs.Law.{IsLegal}
use Rattle.oz_core.specs.Manager.{halt_of}
use Rattle.oz_core.specs.Nodes.{holds, is_closed}
use Rattle.oz_core.specs.Scm.{Containers, containers, is_in_logs, is_logged, is_logged_at_opening, is_retired, is_up, logs, members, names_block}
use Rattle.oz_datanode.specs.Datanode.{is_halted, node_in}
use Rattle.oz_datanode.specs.Writing.{is_open}
use Rattle.oz_dellog.specs.declared.logged.Logged.{Logged}
use Rattle.oz_dellog.specs.declared.txn.Txn.{Txn}
use Rattle.oz_dellog.specs.Log.{IsLogged, Log}
use Rattle.oz_dellog.specs.Logged.{txn_of}
use Rattle.oz_entries.specs.Node.{is_held}
use Rattle.oz_fields.specs.declared.block.Block.{Block}
use Rattle.oz_kept.specs.laws.Reached.{in_none}
use Rattle.oz_kept.specs.reopened.Left.{IsUnretired}
use Rattle.oz_node_events.specs.NodeSeat.{SeatView}
use Rattle.oz_nodes.specs.Pipelines.{members_of}
use Rattle.oz_owned.specs.laws.Numbered.{logs_grow}
use Rattle.oz_repl.specs.declared.repl.view.View.{View}
use Rattle.oz_repl.specs.views.View.{AreHeldIfUp, block_in}
use Rattle.oz_repl.specs.views.laws.Logged.{logged_and_held, named_by}
use Rattle.oz_replicas.specs.Cells.{CellView}
use Rattle.oz_scm.specs.grants.Made.{log_of}
use Rattle.oz_scm.specs.Scm.{State as ScmState}
use Rattle.oz_scm_events.specs.Kept.{IsKept, IsLogOf}
use Rattle.oz_scm_events.specs.Stepped.{state_told}
use Rattle.oz_service.specs.AllLocked.{AllView, IsShown}
use Rattle.oz_service.specs.Viewed.{AreOldDeletions, AreShown, HasOfIt, IsMember, IsSeenAs, IsToGo}
use Rattle.oz_service.proofs.Grown.{Grown}
use Rattle.oz_world.specs.declared.disk.Disk.{Ghosts as Disk}

-- ---- a block that a log names

names : (txn : Txn) (number local : ℕ) → txn.container ≡ number → Contains txn.locals local → names_block (block_in number local) txn ≡ true
names txn number local container (k, lt, is) =
    and_from (txn.container == number) (list_any (λ it. it == local) txn.locals) (eq-eqb txn.container number container)
    (list_any-from_Any (λ it. it == local) txn.locals (k, local, lt, is, eq-eqb local local refl))

named : (txn : Txn) (number local : ℕ) → names_block (block_in number local) txn ≡ true → (txn.container ≡ number) × Contains txn.locals local
named txn number local is =
    let parts = and_parts (txn.container == number) (list_any (λ it. it == local) txn.locals) is in
    let any = Any-from_list_any (λ it. it == local) txn.locals parts.1 in
    let same : any.1 ≡ local = eqb-true any.1 local any.4 in
    (eqb-true txn.container number parts.0, (any.0, any.2, subst (λ (it : ℕ). get_or txn.locals any.0 it ≡ it) same any.3))

in_logs : (txns : List Txn) (block : Block) (txn : Txn) → Contains txns txn → names_block block txn ≡ true → is_in_logs txns block ≡ true
in_logs txns block txn (k, lt, is) its = list_any-from_Any (names_block block) txns (k, txn, lt, is, its)

of_map : (number : ℕ) (found : Option Logged) (txn : Txn) → option_map (txn_of number) found ≡ Some txn
    → (logged : Logged) × (found ≡ Some logged) × (txn_of number logged ≡ txn)
of_map number None txn e = absurd cc
of_map number (Some logged) txn e = (logged, refl, same_Some (txn_of number logged) txn e)

of_state : (found : Option Container) (state : ReplicaState) → option_map (λ (container : Container). container.state) found ≡ Some state
    → (container : Container) × (found ≡ Some container) × (container.state ≡ state)
of_state None state e = absurd cc
of_state (Some container) state e = (container, refl, same_Some container.state state e)

pub no_state : (found : Option Container) → option_map (λ (container : Container). container.state) found ≡ None → found ≡ None
no_state None e = refl
no_state (Some container) e = absurd cc

pub not_made : (found : Option Container) (state : ReplicaState) → option_map (λ (container : Container). container.state) found ≡ Some state
    → found ≡ None → ⊥
not_made None state e none = absurd cc
not_made (Some container) state e none = absurd cc

-- ---- one of three

three : (x y z dn k : ℕ) → k < 3 → get_or (x ∷ y ∷ z ∷ []) k dn ≡ dn → (x ≡ dn) ⊎ ((y ≡ dn) ⊎ (z ≡ dn))
three x y z dn zero lt e = inl e
three x y z dn (suc zero) lt e = inr (inl e)
three x y z dn (suc (suc zero)) lt e = inr (inr e)
three x y z dn (suc (suc (suc k))) lt e = absurd (omega (arith, lt))

-- three lists one after another, of which those were taken that are to go
pub three_grown : (Goes : ℕ → Type 0) (a b c : List ℕ) (one two last : List ℕ) → Grown Goes a [] one → Grown Goes b one two → Grown Goes c two last
    → (local : ℕ) → Contains last local ↔ ((Contains a local ⊎ (Contains b local ⊎ Contains c local)) × Goes local)
three_grown Goes a b c one two last first second third x = (
  λ has. ⊎_elim
      (λ was. ⊎_elim
      (λ before. ⊎_elim
      (λ none. absurd (in_none x none))
      (λ its. (inl its.0, its.1))
      ((first x).0 before))
      (λ its. (inr (inl its.0), its.1))
      ((second x).0 was))
      (λ its. (inr (inr its.0), its.1))
      ((third x).0 has),
  λ it. ⊎_elim
      (λ of_a. (third x).1 (inl ((second x).1 (inl ((first x).1 (inr (of_a, it.1)))))))
      (λ rest. ⊎_elim
      (λ of_b. (third x).1 (inl ((second x).1 (inr (of_b, it.1)))))
      (λ of_c. (third x).1 (inr (of_c, it.1)))
      rest)
      it.0,
)

record HasCell {D : Type 0} (all : AllView D) (dn : ℕ) : Type 0 where
  cell : CellView D SeatView
  at : slice_get all.nodes dn ≡ Some cell

module _ {D O : Type 0} (disk : Disk D) (run : Run O) (story : List Event) (all : AllView D) (shown : AreShown disk run story all)
    (ups : (dn : ℕ) → is_up dn story ≡ is_up dn all.scm.mine) (made : containers run.opening story ≡ containers run.opening all.scm.mine)
    (said : logs run.opening story ≡ logs run.opening all.scm.mine) (gone : (txn : ℕ) → is_retired txn story ≡ is_retired txn all.scm.mine)
    (log : IsLogOf run.opening all.scm.mine (log_of all.scm.scm.made)) (number : ℕ) where
  -- ---- a member

  has_cell : (dn : ℕ) → dn < length run.opening.nodes → HasCell all dn
  has_cell dn lt = ⊎_elim
      (λ it. record { cell = it.0; at = it.2 })
      (λ none. absurd (omega (arith, lt, none.0, shown.know.count)))
      (slice_get_cases all.nodes dn).1

  runs : (dn : ℕ) (cell : CellView D SeatView) → slice_get all.nodes dn ≡ Some cell → is_up dn story ≡ true → is_halted cell.node ≡ false
  runs dn cell at up = false_from_ne_true (is_halted cell.node) (λ halted.
      let it = shown.know.nodes dn cell at in
      let id : cell.node.id ≡ dn = it.stands.number ∙ it.number in
      let down = shown.down dn cell at halted in
      false≢true (sym down ∙ ap (λ (n : ℕ). is_up n all.scm.mine) id ∙ sym (ups dn) ∙ up))

  held_up : (dn : ℕ) (cell : CellView D SeatView) → slice_get all.nodes dn ≡ Some cell → is_up dn story ≡ true → (block : Block)
      → holds run.opening story dn block ≡ is_held (node_in cell.node) block
  held_up dn cell at up block =
      let it = shown.know.nodes dn cell at in
      sym (ap (λ (l : List Event). holds run.opening l cell.kept.dn block) it.seen ∙ ap (λ (n : ℕ). holds run.opening story n block) it.number)
      ∙ it.stands.held shown.coherent (runs dn cell at up) block

  closed_up : (dn : ℕ) (cell : CellView D SeatView) → slice_get all.nodes dn ≡ Some cell → is_up dn story ≡ true
      → is_closed run.opening story dn number ≡ not (is_open ((node_in cell.node).states number))
  closed_up dn cell at up =
      let it = shown.know.nodes dn cell at in
      sym (ap (λ (l : List Event). is_closed run.opening l cell.kept.dn number) it.seen ∙ ap (λ (n : ℕ). is_closed run.opening story n number) it.number)
      ∙ it.stands.closed shown.coherent (runs dn cell at up) number

  record IsSeenMember (dn : ℕ) (up closed : Bool) (held : List ℕ) : Type 0 where
    its_up : up ≡ is_up dn story
    its_closed : up ≡ true → closed ≡ is_closed run.opening story dn number
    its_held : AreHeldIfUp run.opening story number dn held

  seen_member : (dn : ℕ) (up closed : Bool) (held : List ℕ) → dn < length run.opening.nodes → IsMember all number dn up closed held
      → IsSeenMember dn up closed held
  seen_member dn up closed held lt is =
      let there = has_cell dn lt in
      let has = is.has there.cell there.at in
      let its : up ≡ is_up dn story = is.told ∙ sym (ups dn) in
      record {
        its_up = its;
        its_closed = λ yes. has.replica ∙ sym (closed_up dn there.cell there.at (sym its ∙ yes));
        its_held = λ yes local.
            let same = held_up dn there.cell there.at yes (block_in number local) in
            (λ among. same ∙ (has.blocks.each local).0 among, λ holding. (has.blocks.each local).1 (sym same ∙ holding));
      }

  -- ---- what is to go

  is_legal : IsLegal run.opening story
  is_legal = legal_of_follow run.coherent run.opening run.bytes run.script story shown.coherent shown.follow

  goes_by_story : (old : List ℕ) (local : ℕ) → AreOldDeletions run.opening number old → IsToGo (log_of all.scm.scm.made) old number local
      → is_logged run.opening story (block_in number local) ≡ true
  goes_by_story old local are it = ⊎_elim
      (λ in_log.
      let is = log.each in_log.number in_log.logged in_log.there in
      in_logs (logs run.opening story) (block_in number local) (txn_of in_log.number in_log.logged)
      (subst (λ (l : List Txn). Contains l (txn_of in_log.number in_log.logged)) (sym said) is.there)
      (names (txn_of in_log.number in_log.logged) number local in_log.container in_log.local))
      (λ before.
      let by = named_by (logs run.opening []) (block_in number local) ((are local).0 before) in
      in_logs (logs run.opening story) (block_in number local) by.txn (logs_grow run.opening story 0 by.txn by.there) by.names)
      it

  goes_under_locks : (old : List ℕ) (dn local : ℕ) → AreOldDeletions run.opening number old → dn < length run.opening.nodes
      → is_logged run.opening story (block_in number local) ≡ true → holds run.opening story dn (block_in number local) ≡ true
      → IsToGo (log_of all.scm.scm.made) old number local
  goes_under_locks old dn local are lt is holding =
      let there = has_cell dn lt in
      let it = shown.know.nodes dn there.cell there.at in
      ⊎_elim
      (λ by.
      let unretired : IsUnretired run.opening story by.0 = by.2 in
      let found = log.all by.0 (subst (λ (l : List Txn). Contains l by.0) said unretired.0) (sym (gone by.0.number) ∙ unretired.1) in
      let parts = of_map by.0.number (get all.scm.scm.made.unretired by.0.number) by.0 found in
      let its = named by.0 number local by.1 in
      inl (record {
        number = by.0.number;
        logged = parts.0;
        there = parts.1;
        container = ap (λ (t : Txn). t.container) parts.2 ∙ its.0;
        local = subst (λ (l : List ℕ). Contains l local) (sym (ap (λ (t : Txn). t.locals) parts.2)) its.1;
      }))
      (λ before. inr ((are local).1 before))
      (logged_and_held run.opening run.bytes story dn (block_in number local) is_legal shown.agree (it.kept.numbered shown.coherent) (shown.away dn lt) is
      holding)

  -- ---- the view

  abbrev InOne : List ℕ → List ℕ → List ℕ → ℕ → Type 0
  InOne a b c local = Contains a local ⊎ (Contains b local ⊎ Contains c local)

  pub seen_as : (old : List ℕ) (state : ReplicaState) (x y z : ℕ) (up1 up2 up3 closed1 closed2 closed3 : Bool) (held1 held2 held3 logged : List ℕ)
      → AreOldDeletions run.opening number old → state_told run.opening all.scm.mine number ≡ Some state
      → members run.opening all.scm.mine number ≡ x ∷ y ∷ z ∷ [] → x < length run.opening.nodes → y < length run.opening.nodes → z < length run.opening.nodes
      → IsMember all number x up1 closed1 held1 → IsMember all number y up2 closed2 held2 → IsMember all number z up3 closed3 held3
      → ((local : ℕ) → Contains logged local ↔ (InOne held1 held2 held3 local × IsToGo (log_of all.scm.scm.made) old number local))
      → IsSeenAs run.opening story number (record {
        state = state;
        members = x ∷ y ∷ z ∷ [];
        up = up1 ∷ up2 ∷ up3 ∷ [];
        closed = closed1 ∷ closed2 ∷ closed3 ∷ [];
        held = held1 ∷ held2 ∷ held3 ∷ [];
        logged = logged;
      })
  seen_as old state x y z up1 up2 up3 closed1 closed2 closed3 held1 held2 held3 logged are told of x_lt y_lt z_lt is1 is2 is3 each =
      let one = seen_member x up1 closed1 held1 x_lt is1 in
      let two = seen_member y up2 closed2 held2 y_lt is2 in
      let last = seen_member z up3 closed3 held3 z_lt is3 in
      let found = of_state (get (containers run.opening all.scm.mine) number) state told in
      let same : members run.opening story number ≡ members run.opening all.scm.mine number =
      ap (λ (c : Containers). option_map_or (λ (container : Container). members_of (length run.opening.nodes) container.pipeline) (get c number) []) made in
      let ids : List ℕ = x ∷ y ∷ z ∷ [] in
      record {
        closed = map (λ dn. is_closed run.opening story dn number) ids;
        many = refl;
        is_view = record {
          container = found.0;
          made = ap (λ (c : Containers). get c number) made ∙ found.1;
          state = sym found.2;
          members = sym (same ∙ of);
          up = cons3 one.its_up two.its_up last.its_up;
          closed = refl;
          held = (one.its_held, (two.its_held, (last.its_held, tt)));
          logged = λ local has. goes_by_story old local are ((each local).0 has).1;
          all_logged = λ dn local (k, lt, is) up holding deleting.
              ⊎_elim
              (λ e. is_listed local (inl ((one.its_held (ap (λ (n : ℕ). is_up n story) e ∙ up) local).1
              (ap (λ (n : ℕ). holds run.opening story n (block_in number local)) e ∙ holding)))
              (goes_under_locks old x local are x_lt deleting (ap (λ (n : ℕ). holds run.opening story n (block_in number local)) e ∙ holding)))
              (λ rest. ⊎_elim
              (λ e. is_listed local (inr (inl ((two.its_held (ap (λ (n : ℕ). is_up n story) e ∙ up) local).1
              (ap (λ (n : ℕ). holds run.opening story n (block_in number local)) e ∙ holding))))
              (goes_under_locks old y local are y_lt deleting (ap (λ (n : ℕ). holds run.opening story n (block_in number local)) e ∙ holding)))
              (λ e. is_listed local (inr (inr ((last.its_held (ap (λ (n : ℕ). is_up n story) e ∙ up) local).1
              (ap (λ (n : ℕ). holds run.opening story n (block_in number local)) e ∙ holding))))
              (goes_under_locks old z local are z_lt deleting (ap (λ (n : ℕ). holds run.opening story n (block_in number local)) e ∙ holding)))
              rest)
              (three x y z dn k (omega (arith, lt)) is);
        };
        same = closed_same one two last;
      }
    where
      cons3 : up1 ≡ is_up x story → up2 ≡ is_up y story → up3 ≡ is_up z story
          → up1 ∷ up2 ∷ up3 ∷ [] ≡ map (λ dn. is_up dn story) (x ∷ y ∷ z ∷ [])
      cons3 a b c =
          ap (λ (u : Bool). u ∷ up2 ∷ up3 ∷ []) a ∙ ap (λ (u : Bool). is_up x story ∷ u ∷ up3 ∷ []) b
          ∙ ap (λ (u : Bool). is_up x story ∷ is_up y story ∷ u ∷ []) c

      is_listed : (local : ℕ) → InOne held1 held2 held3 local → IsToGo (log_of all.scm.scm.made) old number local → Contains logged local
      is_listed local among goes = (each local).1 (among, goes)

      closed_same : IsSeenMember x up1 closed1 held1 → IsSeenMember y up2 closed2 held2 → IsSeenMember z up3 closed3 held3
          → (place : ℕ) → slice_get (up1 ∷ up2 ∷ up3 ∷ []) place ≡ Some true
          → slice_get (closed1 ∷ closed2 ∷ closed3 ∷ []) place ≡ slice_get (map (λ dn. is_closed run.opening story dn number) (x ∷ y ∷ z ∷ [])) place
      closed_same one two last zero up = ap Some (one.its_closed (same_Some up1 true up))
      closed_same one two last (suc zero) up = ap Some (two.its_closed (same_Some up2 true up))
      closed_same one two last (suc (suc zero)) up = ap Some (last.its_closed (same_Some up3 true up))
      closed_same one two last (suc (suc (suc place))) up = refl

  pub seen_as_of : (old : List ℕ) (state : ReplicaState) (dns : List ℕ) (x y z : ℕ) (up1 up2 up3 closed1 closed2 closed3 : Bool)
      (held1 held2 held3 logged : List ℕ) → dns ≡ x ∷ y ∷ z ∷ []
      → AreOldDeletions run.opening number old → state_told run.opening all.scm.mine number ≡ Some state
      → members run.opening all.scm.mine number ≡ dns → x < length run.opening.nodes → y < length run.opening.nodes → z < length run.opening.nodes
      → IsMember all number x up1 closed1 held1 → IsMember all number y up2 closed2 held2 → IsMember all number z up3 closed3 held3
      → ((local : ℕ) → Contains logged local ↔ (InOne held1 held2 held3 local × IsToGo (log_of all.scm.scm.made) old number local))
      → IsSeenAs run.opening story number (record {
        state = state;
        members = dns;
        up = up1 ∷ up2 ∷ up3 ∷ [];
        closed = closed1 ∷ closed2 ∷ closed3 ∷ [];
        held = held1 ∷ held2 ∷ held3 ∷ [];
        logged = logged;
      })
  seen_as_of old state dns x y z up1 up2 up3 closed1 closed2 closed3 held1 held2 held3 logged is are told of x_lt y_lt z_lt is1 is2 is3 each =
      subst (λ (l : List ℕ). IsSeenAs run.opening story number (record {
        state = state;
        members = l;
        up = up1 ∷ up2 ∷ up3 ∷ [];
        closed = closed1 ∷ closed2 ∷ closed3 ∷ [];
        held = held1 ∷ held2 ∷ held3 ∷ [];
        logged = logged;
      })) (sym is)
      (seen_as old state x y z up1 up2 up3 closed1 closed2 closed3 held1 held2 held3 logged are told (of ∙ is) x_lt y_lt z_lt is1 is2 is3 each)

pub three_of : (dns : List ℕ) → length dns ≡ 3 → dns ≡ get_or dns 0 0 ∷ get_or dns 1 0 ∷ get_or dns 2 0 ∷ []
three_of [] e = absurd (omega (arith, e))
three_of (x ∷ []) e = absurd (omega (arith, e))
three_of (x ∷ y ∷ []) e = absurd (omega (arith, e))
three_of (x ∷ y ∷ z ∷ []) e = refl
three_of (x ∷ y ∷ z ∷ w ∷ rest) e = absurd (omega (arith, e))

pub member_is : {D : Type 0} (nodes : List (CellView D SeatView)) (cell : CellView D SeatView) (dn number : ℕ) (closed : Bool) (held : List ℕ)
    → slice_get nodes dn ≡ Some cell → closed ≡ not (is_open ((node_in cell.node).states number)) → AreHeldIn (node_in cell.node) number held
    → (other : CellView D SeatView) → slice_get nodes dn ≡ Some other → HasOfIt other.node number closed held
member_is {D} nodes cell dn number closed held at is are other got =
    subst (λ (x : CellView D SeatView). HasOfIt x.node number closed held) (same_Some cell other (sym at ∙ got)) (record { replica = is; blocks = are })

no_fault : (count : ℕ) → None ≡ Some count → ⊥
no_fault count e = absurd cc

pub log_kept : {D : Type 0} (opening : Opening) (loaded : ℕ) (scm : ScmState D) (faults : ℕ) (seen mine : List Event)
    → IsKept opening loaded scm faults seen mine → halt_of Scm mine ≡ None → IsLogOf opening mine (log_of scm.made)
log_kept {D} opening loaded scm faults seen mine kept none =
    kept.log (false_from_ne_true scm.stopped (λ yes.
    no_fault faults (sym none ∙ kept.halt ∙ ap (λ (t : Bool). cond t (Some faults) None) yes)))

-- rising lists of three members
pub three_rise : (a b c : List ℕ) → IsStrictlyIncreasing a → IsStrictlyIncreasing b → IsStrictlyIncreasing c
    → All IsStrictlyIncreasing (a ∷ b ∷ c ∷ [])
three_rise a b c first second third zero d lt = first
three_rise a b c first second third (suc zero) d lt = second
three_rise a b c first second third (suc (suc zero)) d lt = third
three_rise a b c first second third (suc (suc (suc k))) d lt = absurd (omega (arith, lt))

-- what a member holds rises, where there is such a datanode
pub member_rises : {D : Type 0} (all : AllView D) (number dn : ℕ) (up closed : Bool) (held : List ℕ) → dn < length all.nodes
    → IsMember all number dn up closed held → IsStrictlyIncreasing held
member_rises all number dn up closed held lt is = ⊎_elim
    (λ it. (is.has it.0 it.2).blocks.rising)
    (λ none. absurd (omega (arith, lt, none.0)))
    (slice_get_cases all.nodes dn).1
