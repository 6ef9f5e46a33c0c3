-- The empty story leaves its opening.
use Rattle.std.proofs.Common.{
  ◌≡◌,
  ⊎_elim,
  ℕ,
  zero,
  suc,
  ◌==◌,
  Bool,
  true,
  false,
  ◌&&◌,
  List,
  [],
  ◌∷◌,
  ◌++◌,
  map,
  Option,
  None,
  Some,
  IsSome,
  Contains,
  cond,
  inl,
  inr,
  refl,
  sym,
  ◌∙◌,
  ap,
  subst,
  append-nil,
  arith,
}
use Rattle.std.proofs.lemmas.Bool.{eq-eqb, eqb-true}
use Rattle.std.proofs.lemmas.List.Elements.{Contains-append_left, Contains-append_right, Contains-append_cases}
use Rattle.std.specs.List.{slice_get, flat_map, cons_option, filter_map}
use Rattle.oz_dellog.specs.declared.txn.Txn.{Txn}
use Rattle.oz_fields.specs.declared.block.Block.{Block}
use Rattle.oz_fields.specs.declared.block.Piece.{Piece}
use Rattle.oz_script.specs.declared.lines.script.Script.{Script}
use Rattle.oz_core.specs.declared.opening.Opening.{Opening}
use Rattle.oz_core.specs.declared.opening.Unretired.{Unretired}
use Rattle.oz_core.specs.Coherent.{IsCoherent}
use Rattle.oz_core.specs.Contents.{OpeningBytes}
use Rattle.oz_core.specs.Manager.{namespace_from}
use Rattle.oz_core.specs.Nodes.{is_block, length_in}
use Rattle.oz_core.specs.Scm.{acknowledged_at_opening}
use Rattle.oz_kept.specs.Held.{HavingFrom}
use Rattle.oz_kept.specs.laws.Reached.{in_none}
use Rattle.oz_kept.specs.laws.Deleted.{first_or_later}
use Rattle.oz_kept.specs.reopened.Left.{NumbersAreApart, StandsInLog, IsLeftByManager, IsLeftByScm, IsLeftByNode, IsLeft}
use Rattle.oz_kept.specs.reopened.laws.Logged.{txn_of}

-- ---- lists

module _ {X A : Type 0} (f : X → List A) where
  in_some : (l : List X) (x : X) (y : A) → Contains l x → Contains (f x) y → Contains (flat_map f l) y
  in_some [] x y among has = absurd (in_none x among)
  in_some (first ∷ l) x y among has = ⊎_elim
      (λ same. Contains-append_left (f first) (flat_map f l) y (subst (λ (z : X). Contains (f z) y) (sym same) has))
      (λ later. Contains-append_right (f first) (flat_map f l) y (in_some l x y later has))
      (first_or_later first x l among)

  record IsFrom (l : List X) (y : A) : Type 0 where
    item : X
    there : Contains l item
    has : Contains (f item) y

  from_some : (l : List X) (y : A) → Contains (flat_map f l) y → IsFrom l y
  from_some [] y among = absurd (in_none y among)
  from_some (first ∷ l) y among = ⊎_elim
      (λ here. record { item = first; there = (0, omega arith, refl); has = here })
      (λ later.
      let it = from_some l y later in
      record { item = it.item; there = (suc it.there.0, omega (arith, it.there.1), it.there.2); has = it.has })
      (Contains-append_cases (f first) (flat_map f l) y among)

found : {X : Type 0} (l : List X) (k : ℕ) (x : X) → slice_get l k ≡ Some x → Contains l x
found [] k x e = absurd cc
found (y ∷ l) zero x e = let same : y ≡ x = cc in (0, omega arith, same)
found (y ∷ l) (suc k) x e = let later = found l k x e in (suc later.0, omega (arith, later.1), later.2)

without_end : {A : Type 0} (l : List A) (x : A) → Contains l x → Contains (l ++ []) x
without_end l x among = Contains-append_left l [] x among

-- ---- lengths

is_itself : (block : Block) → is_block block block ≡ true
is_itself block = ap (λ (t : Bool). t && block.local == block.local) (eq-eqb block.container block.container refl) ∙ eq-eqb block.local block.local refl

own_length : (held : List Piece) (piece : Piece) → Contains held piece
    → Contains (filter_map (λ (other : Piece). cond (is_block piece.block other.block) (Some other.length) None) held) piece.length
own_length [] piece among = absurd (in_none piece among)
own_length (first ∷ held) piece among = ⊎_elim
    (λ same.
    let told : cond (is_block piece.block first.block) (Some first.length) None ≡ Some piece.length =
    ap (λ (p : Piece). cond (is_block piece.block p.block) (Some p.length) None) same
    ∙ ap (λ (t : Bool). cond t (Some piece.length) None) (is_itself piece.block) in
    subst (λ (o : Option ℕ). Contains (cons_option o
    (filter_map (λ (other : Piece). cond (is_block piece.block other.block) (Some other.length) None) held)) piece.length) (sym told)
    (0, omega arith, refl))
    (λ later. by (cond (is_block piece.block first.block) (Some first.length) None) (own_length held piece later))
    (first_or_later first piece held among)
  where
    by : (o : Option ℕ) → Contains (filter_map (λ (other : Piece). cond (is_block piece.block other.block) (Some other.length) None) held) piece.length
        → Contains (cons_option o (filter_map (λ (other : Piece). cond (is_block piece.block other.block) (Some other.length) None) held)) piece.length
    by None later = later
    by (Some n) later = (suc later.0, omega (arith, later.1), later.2)

-- ---- the log

acks : ℕ → Unretired → List ℕ
acks number unretired = cond (unretired.txn.number == number) unretired.acknowledgers []

acknowledged_then : (opening : Opening) (unretired : Unretired) (dn : ℕ) → Contains opening.unretired unretired → Contains unretired.acknowledgers dn
    → Contains (acknowledged_at_opening opening unretired.txn.number) dn
unfolding acks
acknowledged_then opening unretired dn there has =
    in_some (acks unretired.txn.number) opening.unretired unretired dn there
    (subst (λ (t : Bool). Contains (cond t unretired.acknowledgers []) dn) (sym (eq-eqb unretired.txn.number unretired.txn.number refl)) has)

acknowledged_by : (opening : Opening) → NumbersAreApart opening → (unretired : Unretired) (dn : ℕ) → Contains opening.unretired unretired
    → Contains (acknowledged_at_opening opening unretired.txn.number) dn → Contains unretired.acknowledgers dn
unfolding acks
acknowledged_by opening apart unretired dn there has = by (from.item.txn.number == unretired.txn.number) refl from.has
  where
    from : IsFrom (acks unretired.txn.number) opening.unretired dn
    from = from_some (acks unretired.txn.number) opening.unretired dn has

    by : (t : Bool) → (from.item.txn.number == unretired.txn.number) ≡ t → Contains (cond t from.item.acknowledgers []) dn → Contains unretired.acknowledgers dn
    by true test among =
        let same = apart from.item unretired from.there there (eqb-true from.item.txn.number unretired.txn.number test) in
        subst (λ (u : Unretired). Contains u.acknowledgers dn) same among
    by false test none = absurd (in_none dn none)

txn_there : (all : List Unretired) (unretired : Unretired) → Contains all unretired
    → Contains (map (λ (unretired : Unretired). unretired.txn) all) unretired.txn
txn_there [] unretired among = absurd (in_none unretired among)
txn_there (first ∷ all) unretired among = ⊎_elim
    (λ same. (0, omega arith, ap (λ (u : Unretired). u.txn) same))
    (λ later. let behind = txn_there all unretired later in (suc behind.0, omega (arith, behind.1), behind.2))
    (first_or_later first unretired all among)

stands : (opening : Opening) (txn : Txn) → Contains (map (λ (unretired : Unretired). unretired.txn) opening.unretired) txn → StandsInLog opening [] opening txn
stands opening txn among =
    let it = txn_of opening.unretired txn among in
    record {
      acknowledged = it.unretired.acknowledgers;
      there = subst (λ (t : Txn). Contains opening.unretired (record { txn = t; acknowledgers = it.unretired.acknowledgers })) it.same it.there;
    }

-- ---- each node

inside : (o : Option (List ℕ)) → IsSome o → (content : List ℕ) × (o ≡ Some content)
inside None some = absurd cc
inside (Some content) some = (content, refl)

by_manager : (opening : Opening) → IsLeftByManager opening [] opening.last_index opening
unfolding namespace_from
by_manager opening = record {
  namespace = refl;
  last_index = refl;
  deleted = λ block among. inr (inl among);
  kept = λ block of. ⊎_elim (λ reached. inl reached) (λ rest. ⊎_elim (λ left. inr (inl left)) (λ none. absurd (in_none block none)) rest) of;
}

by_scm : (opening : Opening) → NumbersAreApart opening → IsLeftByScm opening [] opening
by_scm opening apart = record {
  count = refl;
  next_id = refl;
  containers = refl;
  last_txn = refl;
  logged = λ txn of. stands opening txn
      (subst (λ (l : List Txn). Contains l txn) (append-nil (map (λ (unretired : Unretired). unretired.txn) opening.unretired)) of.0);
  unretired = λ unretired there.
      (without_end (map (λ (unretired : Unretired). unretired.txn) opening.unretired) unretired.txn (txn_there opening.unretired unretired there), refl);
  acknowledged = λ unretired there dn. (
    (λ has. without_end (acknowledged_at_opening opening unretired.txn.number) dn (acknowledged_then opening unretired dn there has)),
    (λ has. acknowledged_by opening apart unretired dn there
        (subst (λ (l : List ℕ). Contains l dn) (append-nil (acknowledged_at_opening opening unretired.txn.number)) has)),
  );
}

by_node : (opening : Opening) (bytes : OpeningBytes) (script : Script) (dn : ℕ) → IsCoherent opening bytes
    → IsLeftByNode opening bytes script [] dn opening bytes
unfolding HavingFrom
by_node opening bytes script dn coherent = record {
  held = λ block. refl;
  lengths = λ node piece is among. without_end (flat_map (length_in piece.block) opening.nodes) piece.length
      (in_some (length_in piece.block) opening.nodes node piece.length (found opening.nodes dn node is) (own_length node.held piece among));
  has = λ block held.
      let had = inside (bytes dn block) (coherent.blocks.digests_match block dn held) in
      record { content = had.0; has = record { held = held; are = had.1 }; gives = had.1 };
  closed = λ container. refl;
  greatest = λ container. refl;
}

pub left_as_it_was : (opening : Opening) (bytes : OpeningBytes) (script : Script) → IsCoherent opening bytes → NumbersAreApart opening
    → IsLeft opening bytes script [] opening.last_index opening bytes
left_as_it_was opening bytes script coherent apart = record {
  within = record { stable = omega arith; decided = omega arith };
  manager = by_manager opening;
  scm = by_scm opening apart;
  node = λ dn. by_node opening bytes script dn coherent;
}
