-- What a view shows of a story: its members agree, in part or in all, or are empty, just where the story's do.
use Rattle.std.proofs.Common.{◌≡◌, ℕ, zero, suc, ◌<◌, Bool, true, false, List, [], ◌∷◌, length}
use Rattle.std.proofs.Common.{get_or, map, Some, Contains, refl, sym, ◌∙◌, ap, subst, arith}
use Rattle.std.proofs.lemmas.List.{get_or_default, get_or-map, length-map}
use Rattle.std.proofs.lemmas.Option.{get_or_from_slice_get, same_Some, slice_get-get_or, slice_get-map, slice_get_within}
use Rattle.std.specs.List.{All, AllZip, slice_get}
use Rattle.std.specs.Option.{option_map}
use Rattle.oz_container.specs.declared.state.State.{State}
use Rattle.oz_container.specs.declared.state.Event.{Event as Step}
use Rattle.oz_container.specs.declared.state.Event.TheVariants as step
use Rattle.oz_container.specs.Steps.{next}
use Rattle.oz_fields.specs.declared.block.Block.{Block}
use Rattle.oz_core.specs.declared.event.Event.{Event}
use Rattle.oz_core.specs.declared.opening.Opening.{Opening}
use Rattle.oz_core.specs.Law.{AllowsStep, HoldAlike}
use Rattle.oz_core.specs.Law.{Agree as StoryAgrees, AgreeInPart as StoryAgreesInPart, AreEmpty as StoryIsEmpty}
use Rattle.oz_core.specs.Nodes.{holds, is_closed}
use Rattle.oz_core.specs.Scm.{is_logged, is_up, members}
use Rattle.oz_repl.specs.declared.repl.view.View.{View}
use Rattle.oz_repl.specs.repl.View.{Agree, AgreeInPart, Allows, AreEmpty, HoldsWithin, IsNext, held_at}
use Rattle.oz_repl.specs.views.View.{AreHeldIfUp, IsViewOf, block_in}

-- ---- lists that are made of others

module _ {A B : Type 0} where
  of_map : (P : B → Type 0) (f : A → B) (l : List A) → All P (map f l) → All (λ x. P (f x)) l
  of_map P f l all = λ k d lt.
      let long = length-map l f in
      subst P (get_or-map f l k d (f d) lt) (all k (f d) (omega (arith, lt, long)))

  to_map : (P : B → Type 0) (f : A → B) (l : List A) → All (λ x. P (f x)) l → All P (map f l)
  to_map P f l all = λ k d lt. by l k d lt all
    where
      by : (l : List A) (k : ℕ) (d : B) → k < length (map f l) → All (λ x. P (f x)) l → P (get_or (map f l) k d)
      by [] k d lt all = absurd (omega (arith, lt))
      by (x ∷ l) zero d lt all = all zero x (omega arith)
      by (x ∷ l) (suc k) d lt all = by l k d (omega (arith, lt)) (λ j e less. all (suc j) e (omega (arith, less)))

  -- two lists of which each two in the same place stand in a relation
  zip_at : (R : A → B → Type 0) (l : List A) (m : List B) (k : ℕ) (x : A) (e : B) → AllZip R l m → slice_get l k ≡ Some x → R x (get_or m k e)
  zip_at R [] m k x e all at = absurd cc
  zip_at R (y ∷ l) [] k x e all at = absurd all
  zip_at R (y ∷ l) (z ∷ m) zero x e all at = subst (λ (w : A). R w z) (same_Some y x at) all.0
  zip_at R (y ∷ l) (z ∷ m) (suc k) x e all at = zip_at R l m k x e all.1 at

  zip_long : (R : A → B → Type 0) (l : List A) (m : List B) → AllZip R l m → length l ≡ length m
  zip_long R [] [] all = refl
  zip_long R [] (z ∷ m) all = absurd all
  zip_long R (y ∷ l) [] all = absurd all
  zip_long R (y ∷ l) (z ∷ m) all = ap (λ (n : ℕ). suc n) (zip_long R l m all.1)

pub its_block : (number : ℕ) (block : Block) → block.container ≡ number → block_in number block.local ≡ block
its_block number block its = λ i. record { container = sym its i; local = block.local }

alike : (a b : Bool) → (a ≡ true → b ≡ true) → (b ≡ true → a ≡ true) → a ≡ b
alike true b forth back = sym (forth refl)
alike false true forth back = back refl
alike false false forth back = refl

pub not_true : (t : Bool) → (t ≡ true → ⊥) → t ≡ false
not_true true none = absurd (none refl)
not_true false none = refl

module _ (opening : Opening) (story : List Event) (number : ℕ) (view : View) (is : IsViewOf opening story number view) where
  -- ---- by a member's place

  pub up_at : (place dn : ℕ) → slice_get view.members place ≡ Some dn → slice_get view.up place ≡ Some (is_up dn story)
  up_at place dn at =
      ap (λ (l : List Bool). slice_get l place) is.up ∙ slice_get-map (λ dn. is_up dn story) view.members place ∙ ap (option_map (λ dn. is_up dn story)) at

  pub closed_at : (place dn : ℕ) → slice_get view.members place ≡ Some dn → slice_get view.closed place ≡ Some (is_closed opening story dn number)
  closed_at place dn at =
      ap (λ (l : List Bool). slice_get l place) is.closed ∙ slice_get-map (λ dn. is_closed opening story dn number) view.members place
      ∙ ap (option_map (λ dn. is_closed opening story dn number)) at

  -- the datanode of which it is told that it is up
  pub record IsUpHere (place : ℕ) : Type 0 where
    pub dn : ℕ
    pub at : slice_get view.members place ≡ Some dn
    pub up : is_up dn story ≡ true

  pub who_is_up : (place : ℕ) → slice_get view.up place ≡ Some true → IsUpHere place
  who_is_up place e =
      let long = ap (λ (l : List Bool). length l) is.up in
      let mapped = length-map view.members (λ dn. is_up dn story) in
      let lt = slice_get_within view.up place true e in
      let within : place < length view.members = omega (arith, lt, long, mapped) in
      let at = slice_get-get_or view.members place 0 within in
      record {
        dn = get_or view.members place 0;
        at = at;
        up = same_Some (is_up (get_or view.members place 0) story)
            true (sym (up_at place (get_or view.members place 0) at) ∙ e);
      }

  pub held_here : (place dn : ℕ) → slice_get view.members place ≡ Some dn → AreHeldIfUp opening story number dn (held_at view place)
  held_here place dn at = zip_at (AreHeldIfUp opening story number) view.members view.held place dn [] is.held at

  long_held : length view.members ≡ length view.held
  long_held = zip_long (AreHeldIfUp opening story number) view.members view.held is.held

  pub member_at : (place dn : ℕ) → slice_get view.members place ≡ Some dn → Contains (members opening story number) dn
  member_at place dn at =
      let lt = slice_get_within view.members place dn at in
      subst (λ (l : List ℕ). Contains l dn) is.members (place, lt, get_or_from_slice_get view.members place dn dn at)

  pub record IsAt (dn : ℕ) : Type 0 where
    pub place : ℕ
    pub at : slice_get view.members place ≡ Some dn

  pub place_of : (dn : ℕ) → Contains (members opening story number) dn → IsAt dn
  place_of dn among =
      let there = subst (λ (l : List ℕ). Contains l dn) (sym is.members) among in
      record { place = there.0; at = slice_get-get_or view.members there.0 dn there.1 ∙ ap Some there.2 }

  -- ---- what is being deleted

  pub unlogged : (local : ℕ) → is_logged opening story (block_in number local) ≡ false → Contains view.logged local → ⊥
  unlogged local none there = let wrong : false ≡ true = sym none ∙ is.logged local there in cc

  pub not_logged : (place dn local : ℕ) → slice_get view.members place ≡ Some dn → is_up dn story ≡ true → holds opening story dn (block_in number local) ≡ true
      → (Contains view.logged local → ⊥) → is_logged opening story (block_in number local) ≡ false
  not_logged place dn local at up held none =
      let lt = slice_get_within view.members place dn at in
      not_true (is_logged opening story (block_in number local)) (λ logged.
      none (is.all_logged dn local (place, lt, get_or_from_slice_get view.members place dn dn at) up held logged))

  -- ---- all agree

  -- two members hold alike where their lists do
  alike_by_lists : (place other dn node : ℕ) → slice_get view.members place ≡ Some dn → slice_get view.members other ≡
      Some node → is_up dn story ≡ true → is_up node story ≡ true
      → HoldsWithin view.logged (held_at view place) (held_at view other) → HoldsWithin view.logged
      (held_at view other) (held_at view place) → HoldAlike opening story number dn node
  alike_by_lists place other dn node at also up also_up forth back = λ block its none.
      let same = its_block number block its in
      let clear = unlogged block.local (ap (is_logged opening story) same ∙ none) in
      let one = held_here place dn at up block.local in
      let two = held_here other node also also_up block.local in
      alike (holds opening story dn block) (holds opening story node block)
      (λ h. sym (ap (holds opening story node) same) ∙ two.0 (forth block.local clear (one.1 (ap (holds opening story dn) same ∙ h))))
      (λ h. sym (ap (holds opening story dn) same) ∙ one.0 (back block.local clear (two.1 (ap (holds opening story node) same ∙ h))))

  lists_by_alike : (place other dn node : ℕ) → slice_get view.members place ≡ Some dn → slice_get view.members other ≡
      Some node → is_up dn story ≡ true → is_up node story ≡ true
      → HoldAlike opening story number dn node → HoldsWithin view.logged (held_at view place) (held_at view other)
  lists_by_alike place other dn node at also up also_up same = λ local clear there.
      let held = (held_here place dn at up local).0 there in
      let none = not_logged place dn local at up held clear in
      (held_here other node also also_up local).1 (sym (same (block_in number local) refl none) ∙ held)

  at_index : (k d : ℕ) → k < length view.members → slice_get view.members k ≡ Some (get_or view.members k d)
  at_index k d lt = slice_get-get_or view.members k d lt

  held_at_index : (k : ℕ) (d : List ℕ) → k < length view.held → get_or view.held k d ≡ held_at view k
  held_at_index k d lt = get_or_default view.held k d [] lt

  pub ups : All (λ up. up ≡ true) view.up → All (λ dn. is_up dn story ≡ true) view.members
  ups all = of_map (λ (t : Bool). t ≡ true) (λ dn. is_up dn story) view.members (subst (All (λ up. up ≡ true)) is.up all)

  pub ups_back : All (λ dn. is_up dn story ≡ true) view.members → All (λ up. up ≡ true) view.up
  ups_back all = subst (All (λ up. up ≡ true)) (sym is.up) (to_map (λ (t : Bool). t ≡ true) (λ dn. is_up dn story) view.members all)

  pub agrees : Agree view → StoryAgrees opening story number
  agrees agree =
      let up = ups agree.up in record {
        up = subst (All (λ dn. is_up dn story ≡ true)) is.members up;
        closed = subst (All (λ dn. is_closed opening story dn number ≡ true)) is.members
            (of_map (λ (t : Bool). t ≡ true) (λ dn. is_closed opening story dn number) view.members
            (subst (All (λ closed. closed ≡ true)) is.closed agree.closed));
        alike = subst (λ (l : List ℕ). All (λ dn. All (HoldAlike opening story number dn) l) l) is.members
            (λ k d lt j e less.
            let k_lt : k < length view.held = omega (arith, lt, long_held) in
            let j_lt : j < length view.held = omega (arith, less, long_held) in
            alike_by_lists k j (get_or view.members k d) (get_or view.members j e) (at_index k d lt) (at_index j e less) (up k d lt) (up j e less)
            (agree.alike k [] k_lt j [] j_lt) (agree.alike j [] j_lt k [] k_lt));
      }

  pub agrees_back : StoryAgrees opening story number → Agree view
  agrees_back agree =
      let up = subst (All (λ dn. is_up dn story ≡ true)) (sym is.members) agree.up in
      let same = subst (λ (l : List ℕ). All (λ dn. All (HoldAlike opening story number dn) l) l) (sym is.members) agree.alike in record {
        up = ups_back up;
        closed = subst (All (λ closed. closed ≡ true)) (sym is.closed)
            (to_map (λ (t : Bool). t ≡ true) (λ dn. is_closed opening story dn number) view.members
            (subst (All (λ dn. is_closed opening story dn number ≡ true)) (sym is.members) agree.closed));
        alike = λ k d lt j e less.
            let k_lt : k < length view.members = omega (arith, lt, long_held) in
            let j_lt : j < length view.members = omega (arith, less, long_held) in
            subst (λ (l : List ℕ). HoldsWithin view.logged l (get_or view.held j e)) (sym (held_at_index k d lt))
            (subst (HoldsWithin view.logged (held_at view k)) (sym (held_at_index j e less))
            (lists_by_alike k j (get_or view.members k 0) (get_or view.members j 0) (at_index k 0 k_lt)
            (at_index j 0 j_lt) (up k 0 k_lt) (up j 0 j_lt) (same k 0 k_lt j 0 j_lt)));
      }

  -- ---- they agree in part

  pub agrees_in_part : AgreeInPart view → StoryAgreesInPart opening story number
  agrees_in_part part =
      let first = who_is_up part.some.0 (slice_get-get_or view.up part.some.0 true part.some.1 ∙ ap Some part.some.2) in record {
        dn = first.dn;
        member = member_at part.some.0 first.dn first.at;
        up = first.up;
        closed = subst (All (λ dn. is_up dn story ≡ true → is_closed opening story dn number ≡ true)) is.members
            (λ k d lt up.
            let at = at_index k d lt in
            let closed = part.closed k (up_at k (get_or view.members k d) at ∙ ap Some up) in
            same_Some (is_closed opening story (get_or view.members k d) number) true (sym (closed_at k (get_or view.members k d) at) ∙ closed));
        apart = λ agree. part.apart (agrees_back agree);
      }

  pub agrees_in_part_back : StoryAgreesInPart opening story number → AgreeInPart view
  agrees_in_part_back part =
      let first = place_of part.dn part.member in
      let up : slice_get view.up first.place ≡ Some true = up_at first.place part.dn first.at ∙ ap Some part.up in record {
        some = (first.place, slice_get_within view.up first.place true up, get_or_from_slice_get view.up first.place true true up);
        closed = λ place e.
            let it = who_is_up place e in
            let closed = member_closed it.dn (member_at place it.dn it.at) it.up in
            closed_at place it.dn it.at ∙ ap Some closed;
        apart = λ agree. part.apart (agrees agree);
      }
    where
      member_closed : (dn : ℕ) → Contains (members opening story number) dn → is_up dn story ≡ true → is_closed opening story dn number ≡ true
      member_closed dn (k, lt, at) up =
          subst (λ (n : ℕ). is_up n story ≡ true → is_closed opening story n number ≡ true) at (part.closed k dn lt) up

  -- ---- they are empty

  pub is_empty : AreEmpty view → StoryIsEmpty opening story number
  is_empty are =
      let up = ups are.up in record {
        up = subst (All (λ dn. is_up dn story ≡ true)) is.members up;
        empty = subst (All (λ dn. (block : Block) → block.container ≡ number → holds opening story dn block ≡ false)) is.members
            (λ k d lt block its.
            let same = its_block number block its in
            let none = are.empty k [] (omega (arith, lt, long_held)) in
            not_true (holds opening story (get_or view.members k d) block) (λ held.
            let there = (held_here k (get_or view.members k d) (at_index k d lt) (up k d lt) block.local).1
            (ap (holds opening story (get_or view.members k d)) same ∙ held) in
            let wrong = subst (λ (l : List ℕ). Contains l block.local) none there in
            omega (arith, wrong.1)));
      }

  pub is_empty_back : StoryIsEmpty opening story number → AreEmpty view
  is_empty_back are =
      let up = subst (All (λ dn. is_up dn story ≡ true)) (sym is.members) are.up in
      let empty = subst (All (λ dn. (block : Block) → block.container ≡ number → holds opening story dn block ≡ false)) (sym is.members) are.empty in record {
        up = ups_back up;
        empty = λ k d lt.
            let k_lt : k < length view.members = omega (arith, lt, long_held) in
            held_at_index k d lt
            ∙ none_held (held_at view k) (λ local there.
            let held = (held_here k (get_or view.members k 0) (at_index k 0 k_lt) (up k 0 k_lt) local).0 there in
            let wrong : false ≡ true = sym (empty k 0 k_lt (block_in number local) refl) ∙ held in
            cc);
      }
    where
      none_held : (l : List ℕ) → ((local : ℕ) → Contains l local → ⊥) → l ≡ []
      none_held [] none = refl
      none_held (x ∷ l) none = absurd (none x (zero, omega arith, refl))

  -- ---- so the same steps are allowed

  pub allows : (by : Step) → Allows view by → AllowsStep opening story number by
  allows step.Finalize allowed = tt
  allows step.QuasiClose allowed = agrees_in_part allowed
  allows step.Close allowed = agrees allowed
  allows step.ForceClose allowed = agrees allowed
  allows step.Delete allowed = is_empty allowed
  allows step.Cleanup allowed = tt

  pub allows_back : (by : Step) → AllowsStep opening story number by → Allows view by
  allows_back step.Finalize allowed = tt
  allows_back step.QuasiClose allowed = agrees_in_part_back allowed
  allows_back step.Close allowed = agrees_back allowed
  allows_back step.ForceClose allowed = agrees_back allowed
  allows_back step.Delete allowed = is_empty_back allowed
  allows_back step.Cleanup allowed = tt

  pub comes_next : (by : Step) (state : State) → next view.state by ≡ Some state → AllowsStep opening story number by → IsNext view by
  comes_next by state leads allowed = record { state = state; leads = leads; allowed = allows_back by allowed }
