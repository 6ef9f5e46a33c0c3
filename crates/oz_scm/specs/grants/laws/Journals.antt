-- Bodies one after another: what they make, where they are damaged, and which ids they grant.
use Rattle.std.proofs.Common.{
  ◌≡◌,
  ◌⊎◌,
  inl,
  inr,
  ℕ,
  zero,
  suc,
  ◌+◌,
  ◌-◌,
  ◌<◌,
  ◌≤◌,
  ◌^◌,
  Bool,
  true,
  false,
  cond,
  List,
  [],
  ◌∷◌,
  ◌++◌,
  length,
  take,
  drop,
  get_or,
  slice_get,
  Option,
  None,
  Some,
  Result,
  Ok,
  Err,
  refl,
  sym,
  ap,
  subst,
  ◌∙◌,
  arith,
}
use Rattle.std.proofs.lemmas.Bool.{and_parts, eqb-true, le-leb, leb-true, ltb-true}
use Rattle.std.proofs.Common.{◌&&◌, eqb, leb}
use Rattle.oz_dellog.specs.Log.{is_done}
use Rattle.oz_dellog.specs.declared.txn.Txn.{Txn}
use Rattle.oz_fields.specs.Field.{IsField}
use Rattle.oz_fields.specs.Number.{u8_bytes, u16_bytes, u32_bytes, u64_bytes, u8_at, u16_at, u32_at, u64_at}
use Rattle.oz_fields.specs.laws.Numbers.{u8_field, u16_field, u32_field, u64_field}
use Rattle.oz_journal.specs.declared.body.Body.{Body}
use Rattle.oz_journal.specs.Body.{bodies_in}
use Rattle.oz_scm.specs.declared.grants.entry.Entry.{Entry}
use Rattle.oz_scm.specs.declared.grants.entry.Entry.TheVariants.{Nodes, Granted, Stepped, Logged, Acked, Retired}
use Rattle.oz_scm.specs.declared.grants.entry.Grant.{Grant}
use Rattle.oz_scm.specs.grants.Build.{Fault, whole, body_at, behind_one, followed_by, made_from, Makes, FailsAt}
use Rattle.oz_scm.specs.grants.Entries.{entry_bytes, grant_bytes, event_number, txn_bytes, locals_bytes}
use Rattle.oz_scm.specs.grants.Fresh.{AreFresh, said_by, said_from, grants_in}
use Rattle.oz_scm.specs.grants.Made.{
  Made,
  begun,
  container_at,
  is_node_count,
  is_stripe,
  is_old_or_next,
  is_on,
  is_next_id,
  is_whole,
  is_made,
  stepped,
  MayGrant,
  MayStep,
  MayLog,
  MayAck,
  MayRetire,
  MayFollow,
  is_next_txn,
  is_local_count,
  is_unretired,
  may_ack,
  is_owed_by,
  log_of,
  after_log,
  after_ack,
  after_retirement,
  after_grant,
  after_step,
  after_entry,
}
use Rattle.oz_container.specs.declared.state.Event.{Event}
use Rattle.oz_container.specs.declared.state.Event.TheVariants as events
use Rattle.oz_scm.specs.declared.grants.container.Container.{Container}
use Rattle.std.specs.FinMap.{get}
use Rattle.std.specs.List.{AllByRecursion, flat_map}
use Rattle.std.specs.Option.{is_some, option_map_or}
use Rattle.oz_dellog.specs.declared.logged.Logged.{Logged as LoggedTxn}
use Rattle.oz_scm.specs.grants.Reading.{
  goes_on,
  done,
  kept,
  field,
  nodes_at,
  ids_at,
  granted_at,
  event_of,
  is_event_for,
  event_at,
  stepped_at,
  numbers_at,
  locals_at,
  txn_at,
  logged_at,
  acked_at,
  retired_at,
  entry_at,
}

went_on : {A B : Type 0} (read : Result (A × List ℕ) ℕ) (next : A → List ℕ → Result (B × List ℕ) ℕ) (found : B × List ℕ) → goes_on read next ≡ Ok found
    → (x : A × List ℕ) × (read ≡ Ok x) × (next x.0 x.1 ≡ Ok found)
went_on (Ok x) next found e = (x, refl, e)
went_on (Err left) next found e = absurd (cc e)

if_ok : (b : Bool) (left : ℕ) (found x : ℕ × List ℕ) → cond b (Ok found) (Err left) ≡ Ok x → (b ≡ true) × (found ≡ x)
if_ok true left found x e = (refl, cc e)
if_ok false left found x e = absurd (cc e)

kept_ok : (rule : ℕ → Bool) (left : ℕ) (read : Option (ℕ × List ℕ)) (x : ℕ × List ℕ) → kept rule left read ≡ Ok x → rule x.0 ≡ true
kept_ok rule left None x e = absurd (cc e)
kept_ok rule left (Some found) x e =
    let both = if_ok (rule found.0) left found x e in
    subst (λ (y : ℕ × List ℕ). rule y.0 ≡ true) both.1 both.0

first_of : {A : Type 0} (a b : A) (r s : List ℕ) → ◌≡◌ {A = Result (A × List ℕ) ℕ} (Ok (a, r)) (Ok (b, s)) → a ≡ b
first_of {A} a b r s e =
    let both : ◌≡◌ {A = A × List ℕ} (a, r) (b, s) = cc e in
    ap (λ (p : A × List ℕ). p.0) both

ids_follow : (made : Made) (bytes rest : List ℕ) (grant : Grant) → ids_at made bytes ≡ Ok (grant, rest) → MayGrant made grant
unfolding ids_at
ids_follow made bytes rest grant e =
    let a = went_on (field u64_at (is_old_or_next made.containers) bytes) _ (grant, rest) e in
    let b = went_on (field u8_at (is_on made.nodes (container_at made.containers a.0.0)) a.0.1) _ (grant, rest) a.2 in
    let c = went_on (field u64_at (is_next_id made.next_id) b.0.1) _ (grant, rest) b.2 in
    let d = went_on (field u32_at is_whole c.0.1) _ (grant, rest) c.2 in
    subst (MayGrant made) (first_of (record { container = a.0.0; pipeline = b.0.0; first = c.0.0; count = d.0.0 }) grant d.0.1 rest d.2) (record {
      container_is = kept_ok (is_old_or_next made.containers) (length bytes) (u64_at bytes) a.0 a.1;
      pipeline_is = kept_ok (is_on made.nodes (container_at made.containers a.0.0)) (length a.0.1) (u8_at a.0.1) b.0 b.1;
      first_is = kept_ok (is_next_id made.next_id) (length b.0.1) (u64_at b.0.1) c.0 c.1;
      count_is = kept_ok is_whole (length c.0.1) (u32_at c.0.1) d.0 d.1;
    })

granted_follow : (found : Option Made) (left : ℕ) (bytes rest : List ℕ) (entry : Entry) → granted_at found left bytes ≡ Ok (entry, rest) → MayFollow found entry
unfolding granted_at
granted_follow None left bytes rest entry e = absurd (cc e)
granted_follow (Some made) left bytes rest entry e =
    let a = went_on (field u8_at is_stripe bytes) _ (entry, rest) e in
    let b = went_on (ids_at made a.0.1) _ (entry, rest) a.2 in
    subst (MayFollow (Some made)) (first_of (Granted a.0.0 b.0.0) entry b.0.1 rest b.2)
    (kept_ok is_stripe (length bytes) (u8_at bytes) a.0 a.1, ids_follow made a.0.1 b.0.1 b.0.0 b.1)

nodes_follow : (found : Option Made) (left : ℕ) (bytes rest : List ℕ) (entry : Entry) → nodes_at found left bytes ≡ Ok (entry, rest) → MayFollow found entry
unfolding nodes_at
nodes_follow (Some made) left bytes rest entry e = absurd (cc e)
nodes_follow None left bytes rest entry e =
    let a = went_on (field u8_at is_node_count bytes) _ (entry, rest) e in
    subst (MayFollow None) (first_of (Nodes a.0.0) entry a.0.1 rest a.2) (kept_ok is_node_count (length bytes) (u8_at bytes) a.0 a.1)

event_follows : (container : Option Container) (bytes rest : List ℕ) (event : Event) → event_at container bytes ≡ Ok (event, rest)
    → is_some (stepped container event) ≡ true
unfolding event_at
event_follows container bytes rest event e =
    let a = went_on (field u8_at (is_event_for container) bytes) _ (event, rest) e in
    let is = kept_ok (is_event_for container) (length bytes) (u8_at bytes) a.0 a.1 in
    subst (λ (event : Event). is_some (stepped container event) ≡ true) (first_of (event_of a.0.0) event a.0.1 rest a.2) (and_parts _ _ is).1

stepped_follow : (found : Option Made) (left : ℕ) (bytes rest : List ℕ) (entry : Entry) → stepped_at found left bytes ≡ Ok (entry, rest)
    → MayFollow found entry
unfolding stepped_at
stepped_follow None left bytes rest entry e = absurd (cc e)
stepped_follow (Some made) left bytes rest entry e =
    let a = went_on (field u64_at (is_made made.containers) bytes) _ (entry, rest) e in
    let b = went_on (event_at (container_at made.containers a.0.0) a.0.1) _ (entry, rest) a.2 in
    subst (MayFollow (Some made)) (first_of (Stepped a.0.0 b.0.0) entry b.0.1 rest b.2)
    (event_follows (container_at made.containers a.0.0) a.0.1 b.0.1 b.0.0 b.1)

-- so many were read behind those before
numbers_size : (count : ℕ) (front bytes rest numbers : List ℕ) → numbers_at front count bytes ≡ Ok (numbers, rest)
    → length numbers ≡ length front + count
unfolding numbers_at
numbers_size zero front bytes rest numbers e =
    let same : front ≡ numbers = first_of front numbers bytes rest e in
    let size = ap length same in
    omega (arith, size)
numbers_size (suc count) front bytes rest numbers e =
    let a = went_on (field u64_at (λ number. true) bytes) _ (numbers, rest) e in
    let behind = numbers_size count (front ++ a.0.0 ∷ []) a.0.1 rest numbers a.2 in
    let one = length-more front a.0.0 in
    omega (arith, behind, one)
  where
    length-more : (front : List ℕ) (x : ℕ) → length (front ++ x ∷ []) ≡ length front + 1
    length-more [] x = refl
    length-more (y ∷ front) x = let rest = length-more front x in omega (arith, rest)

next_follow : (made : Made) (bytes rest : List ℕ) (txn : Txn) → txn_at made bytes ≡ Ok (txn, rest) → MayLog made txn
unfolding txn_at locals_at
next_follow made bytes rest txn e =
    let a = went_on (field u64_at (is_next_txn made.last_txn) bytes) _ (txn, rest) e in
    let b = went_on (field u64_at (is_made made.containers) a.0.1) _ (txn, rest) a.2 in
    let c = went_on (locals_at b.0.1) _ (txn, rest) b.2 in
    let d = went_on (field u16_at is_local_count b.0.1) _ c.0 c.1 in
    let all : length c.0.0 ≡ 0 + d.0.0 = numbers_size d.0.0 [] d.0.1 c.0.1 c.0.0 d.2 in
    let size : length c.0.0 ≡ d.0.0 = omega (arith, all) in
    subst (MayLog made) (first_of (record { number = a.0.0; container = b.0.0; locals = c.0.0 }) txn c.0.1 rest c.2) (record {
      number_is = kept_ok (is_next_txn made.last_txn) (length bytes) (u64_at bytes) a.0 a.1;
      container_is = kept_ok (is_made made.containers) (length a.0.1) (u64_at a.0.1) b.0 b.1;
      count_is = ap is_local_count size ∙ kept_ok is_local_count (length b.0.1) (u16_at b.0.1) d.0 d.1;
    })

logged_follow : (found : Option Made) (left : ℕ) (bytes rest : List ℕ) (entry : Entry) → logged_at found left bytes ≡ Ok (entry, rest)
    → MayFollow found entry
unfolding logged_at
logged_follow None left bytes rest entry e = absurd (cc e)
logged_follow (Some made) left bytes rest entry e =
    let a = went_on (txn_at made bytes) _ (entry, rest) e in
    subst (MayFollow (Some made)) (first_of (Logged a.0.0) entry a.0.1 rest a.2) (next_follow made bytes a.0.1 a.0.0 a.1)

acked_follow : (found : Option Made) (left : ℕ) (bytes rest : List ℕ) (entry : Entry) → acked_at found left bytes ≡ Ok (entry, rest)
    → MayFollow found entry
unfolding acked_at
acked_follow None left bytes rest entry e = absurd (cc e)
acked_follow (Some made) left bytes rest entry e =
    let a = went_on (field u64_at (is_unretired made) bytes) _ (entry, rest) e in
    let b = went_on (field u8_at (may_ack made a.0.0) a.0.1) _ (entry, rest) a.2 in
    subst (MayFollow (Some made)) (first_of (Acked a.0.0 b.0.0) entry b.0.1 rest b.2)
    (kept_ok (may_ack made a.0.0) (length a.0.1) (u8_at a.0.1) b.0 b.1)

retired_follow : (found : Option Made) (left : ℕ) (bytes rest : List ℕ) (entry : Entry) → retired_at found left bytes ≡ Ok (entry, rest)
    → MayFollow found entry
unfolding retired_at
retired_follow None left bytes rest entry e = absurd (cc e)
retired_follow (Some made) left bytes rest entry e =
    let a = went_on (field u64_at (is_done (log_of made)) bytes) _ (entry, rest) e in
    subst (MayFollow (Some made)) (first_of (Retired a.0.0) entry a.0.1 rest a.2)
    (kept_ok (is_done (log_of made)) (length bytes) (u64_at bytes) a.0 a.1)

-- the entry of a tag, which is one of six readings or none
of_tag : (b1 b2 b3 b4 b5 b6 : Bool) (found : Option Made) (left : ℕ) (bytes rest : List ℕ) (entry : Entry)
    → cond b1 (nodes_at found left) (cond b2 (granted_at found left) (cond b3 (stepped_at found left)
    (cond b4 (logged_at found left) (cond b5 (acked_at found left) (cond b6 (retired_at found left) (λ (bytes : List ℕ). Err left)))))) bytes
    ≡ Ok (entry, rest) → MayFollow found entry
of_tag true b2 b3 b4 b5 b6 found left bytes rest entry e = nodes_follow found left bytes rest entry e
of_tag false true b3 b4 b5 b6 found left bytes rest entry e = granted_follow found left bytes rest entry e
of_tag false false true b4 b5 b6 found left bytes rest entry e = stepped_follow found left bytes rest entry e
of_tag false false false true b5 b6 found left bytes rest entry e = logged_follow found left bytes rest entry e
of_tag false false false false true b6 found left bytes rest entry e = acked_follow found left bytes rest entry e
of_tag false false false false false true found left bytes rest entry e = retired_follow found left bytes rest entry e
of_tag false false false false false false found left bytes rest entry e = absurd (cc e)

entry_follows : (found : Option Made) (bytes rest : List ℕ) (entry : Entry) → entry_at found bytes ≡ Ok (entry, rest) → MayFollow found entry
unfolding entry_at
entry_follows found [] rest entry e = absurd (cc e)
entry_follows found (tag ∷ bytes) rest entry e =
    of_tag (eqb tag 1) (eqb tag 2) (eqb tag 3) (eqb tag 4) (eqb tag 5) (eqb tag 6) found (suc (length bytes)) bytes rest entry e

whole_ok : (size : ℕ) (read : Result (Entry × List ℕ) ℕ) (entry : Entry) → whole size read ≡ Ok entry → read ≡ Ok (entry, [])
whole_ok size (Err left) entry e = absurd (cc e)
whole_ok size (Ok (one, [])) entry e = let same : one ≡ entry = cc e in ap (λ (x : Entry). Ok (x, [])) same
whole_ok size (Ok (one, byte ∷ rest)) entry e = absurd (cc e)

-- an entry that was read may follow
pub body_follows : (found : Option Made) (bytes : List ℕ) (entry : Entry) → body_at found bytes ≡ Ok entry → MayFollow found entry
body_follows found bytes entry e = entry_follows found bytes [] entry (whole_ok (length bytes) (entry_at found bytes) entry e)

-- ---- what may follow is read back

field_back : (bound : ℕ) (spelling : ℕ → List ℕ) (read : List ℕ → Option (ℕ × List ℕ)) (rule : ℕ → Bool) (n : ℕ) (rest : List ℕ)
    → IsField (λ n. n < bound) spelling read → n < bound → rule n ≡ true → field read rule (spelling n ++ rest) ≡ Ok (n, rest)
field_back bound spelling read rule n rest is fits keeps =
    ap (kept rule (length (spelling n ++ rest))) (is.reads_back n rest fits)
    ∙ ap (λ (b : Bool). cond b (Ok (n, rest)) (Err (length (spelling n ++ rest)))) keeps

ids_back : (made : Made) (grant : Grant) (rest : List ℕ) → grant.container < 2 ^ 64 → grant.pipeline < 2 ^ 8 → MayGrant made grant
    → ids_at made (u64_bytes grant.container ++ (u8_bytes grant.pipeline ++ (u64_bytes grant.first ++ (u32_bytes grant.count ++ rest)))) ≡ Ok (grant, rest)
unfolding ids_at
ids_back made grant rest one two may =
    let most : grant.first + 64 ≤ 4611686018427387904 = leb-true _ _ (and_parts _ _ may.first_is).1 in
    let first_fits : grant.first < 2 ^ 64 = omega (arith, most) in
    let count_is : grant.count ≡ 64 = eqb-true _ _ may.count_is in
    let behind_count = u32_bytes grant.count ++ rest in
    let behind_first = u64_bytes grant.first ++ behind_count in
    let behind_pipeline = u8_bytes grant.pipeline ++ behind_first in
    ap (λ (read : Result (ℕ × List ℕ) ℕ). goes_on read
    (λ (container : ℕ) (bytes : List ℕ). goes_on (field u8_at (is_on made.nodes (container_at made.containers container)) bytes)
    (λ (pipeline : ℕ) (bytes : List ℕ). goes_on (field u64_at (is_next_id made.next_id) bytes)
    (λ (first : ℕ) (bytes : List ℕ). goes_on (field u32_at is_whole bytes)
    (λ (count : ℕ). done (record { container = container; pipeline = pipeline; first = first; count = count }))))))
    (field_back (2 ^ 64) u64_bytes u64_at (is_old_or_next made.containers) grant.container behind_pipeline u64_field one may.container_is)
    ∙ (ap (λ (read : Result (ℕ × List ℕ) ℕ). goes_on read
    (λ (pipeline : ℕ) (bytes : List ℕ). goes_on (field u64_at (is_next_id made.next_id) bytes)
    (λ (first : ℕ) (bytes : List ℕ). goes_on (field u32_at is_whole bytes)
    (λ (count : ℕ). done (record { container = grant.container; pipeline = pipeline; first = first; count = count })))))
    (field_back (2 ^ 8) u8_bytes u8_at (is_on made.nodes
    (container_at made.containers grant.container)) grant.pipeline behind_first u8_field two may.pipeline_is)
    ∙ (ap (λ (read : Result (ℕ × List ℕ) ℕ). goes_on read
    (λ (first : ℕ) (bytes : List ℕ). goes_on (field u32_at is_whole bytes)
    (λ (count : ℕ). done (record { container = grant.container; pipeline = grant.pipeline; first = first; count = count }))))
    (field_back (2 ^ 64) u64_bytes u64_at (is_next_id made.next_id) grant.first behind_count u64_field first_fits may.first_is)
    ∙ ap (λ (read : Result (ℕ × List ℕ) ℕ). goes_on read
    (λ (count : ℕ). done (record { container = grant.container; pipeline = grant.pipeline; first = grant.first; count = count })))
    (field_back (2 ^ 32) u32_bytes u32_at is_whole grant.count rest u32_field (omega (arith, count_is)) may.count_is)))

grant_rest : (grant : Grant)
    → grant_bytes grant ≡ u64_bytes grant.container ++ (u8_bytes grant.pipeline ++ (u64_bytes grant.first ++ (u32_bytes grant.count ++ [])))
unfolding u64_bytes u32_bytes
grant_rest grant = refl

stripe_fits : (stripe : ℕ) → is_stripe stripe ≡ true → stripe < 2 ^ 8
stripe_fits stripe of_stripe =
    let below : stripe < 16 = ltb-true _ _ of_stripe in
    omega (arith, below)

-- a grant that may follow is read from its bytes
pub grant_back : (made : Made) (stripe : ℕ) (grant : Grant) → grant.container < 2 ^ 64 → grant.pipeline < 2 ^ 8 → is_stripe stripe ≡ true
    → MayGrant made grant → body_at (Some made) (entry_bytes (Granted stripe grant)) ≡ Ok (Granted stripe grant)
unfolding entry_at granted_at
grant_back made stripe grant one two of_stripe may =
    ap (whole (length (entry_bytes (Granted stripe grant)))) (
    ap (λ (read : Result (ℕ × List ℕ) ℕ). goes_on read
    (λ (stripe : ℕ) (bytes : List ℕ). goes_on (ids_at made bytes) (λ (grant : Grant). done (Granted stripe grant))))
    (field_back (2 ^ 8) u8_bytes u8_at is_stripe stripe (grant_bytes grant) u8_field (stripe_fits stripe of_stripe) of_stripe)
    ∙ ap (λ (read : Result (Grant × List ℕ) ℕ). goes_on read (λ (grant : Grant). done (Granted stripe grant)))
    (ap (ids_at made) (grant_rest grant) ∙ ids_back made grant [] one two may))

-- so is the first entry
pub nodes_back : (count : ℕ) → count < 2 ^ 8 → is_node_count count ≡ true → body_at None (entry_bytes (Nodes count)) ≡ Ok (Nodes count)
unfolding entry_at nodes_at
nodes_back count fits many =
    ap (whole (length (entry_bytes (Nodes count)))) (
    ap (λ (read : Result (ℕ × List ℕ) ℕ). goes_on read (λ (count : ℕ). done (Nodes count)))
    (field_back (2 ^ 8) u8_bytes u8_at is_node_count count [] u8_field fits many))

event_back : (container : Option Container) (event : Event) (rest : List ℕ) → is_some (stepped container event) ≡ true
    → event_at container (u8_bytes (event_number event) ++ rest) ≡ Ok (event, rest)
unfolding event_at
event_back container events.Finalize rest may =
    ap (λ (b : Bool). goes_on (cond b (Ok (1, rest)) (Err (suc (length rest))))
    (λ (n : ℕ). done (event_of n))) may
event_back container events.QuasiClose rest may =
    ap (λ (b : Bool). goes_on (cond b (Ok (2, rest)) (Err (suc (length rest))))
    (λ (n : ℕ). done (event_of n))) may
event_back container events.Close rest may =
    ap (λ (b : Bool). goes_on (cond b (Ok (3, rest)) (Err (suc (length rest))))
    (λ (n : ℕ). done (event_of n))) may
event_back container events.ForceClose rest may =
    ap (λ (b : Bool). goes_on (cond b (Ok (4, rest)) (Err (suc (length rest))))
    (λ (n : ℕ). done (event_of n))) may
event_back container events.Delete rest may =
    ap (λ (b : Bool). goes_on (cond b (Ok (5, rest)) (Err (suc (length rest))))
    (λ (n : ℕ). done (event_of n))) may
event_back container events.Cleanup rest may =
    ap (λ (b : Bool). goes_on (cond b (Ok (6, rest)) (Err (suc (length rest))))
    (λ (n : ℕ). done (event_of n))) may

both_true : (a b : Bool) → a ≡ true → b ≡ true → (a && b) ≡ true
both_true true b one two = two
both_true false b one two = absurd (cc one)

place_within : (l : List Container) (i : ℕ) → is_some (slice_get l i) ≡ true → i < length l
place_within [] i is = absurd (cc is)
place_within (x ∷ l) zero is = omega arith
place_within (x ∷ l) (suc i) is = let rest = place_within l i is in omega (arith, rest)

-- a container whose state allows an event was made
may_made : (made : Made) (container : ℕ) (event : Event) → MayStep made container event → is_made made.containers container ≡ true
may_made made zero event may = absurd (cc may)
may_made made (suc place) event may =
    let there : is_some (slice_get made.containers place) ≡ true = of (slice_get made.containers place) may in
    let within = place_within made.containers place there in
    both_true (leb 1 (suc place)) (leb (suc place) (length made.containers)) (le-leb 1 (suc place) (omega arith))
    (le-leb (suc place) (length made.containers) (omega (arith, within)))
  where
    of : (o : Option Container) → is_some (stepped o event) ≡ true → is_some o ≡ true
    of None is = absurd (cc is)
    of (Some container) is = refl

-- so are the entries of the log
append_none : (front : List ℕ) → front ++ [] ≡ front
append_none [] = refl
append_none (x ∷ front) = ap (λ (l : List ℕ). x ∷ l) (append_none front)

append_one : (front : List ℕ) (n : ℕ) (numbers : List ℕ) → (front ++ n ∷ []) ++ numbers ≡ front ++ n ∷ numbers
append_one [] n numbers = refl
append_one (x ∷ front) n numbers = ap (λ (l : List ℕ). x ∷ l) (append_one front n numbers)

numbers_back : (numbers front : List ℕ) → AllByRecursion (λ n. n < 2 ^ 64) numbers
    → numbers_at front (length numbers) (flat_map u64_bytes numbers) ≡ Ok (front ++ numbers, [])
unfolding numbers_at
numbers_back [] front fit = ap (λ (l : List ℕ). Ok (l, [])) (sym (append_none front))
numbers_back (n ∷ numbers) front fit =
    ap (λ (read : Result (ℕ × List ℕ) ℕ). goes_on read (λ (next : ℕ). numbers_at (front ++ next ∷ []) (length numbers)))
    (field_back (2 ^ 64) u64_bytes u64_at (λ number. true) n (flat_map u64_bytes numbers) u64_field fit.0 refl)
    ∙ (numbers_back numbers (front ++ n ∷ []) fit.1 ∙ ap (λ (l : List ℕ). Ok (l, [])) (append_one front n numbers))

locals_back : (locals : List ℕ) → is_local_count (length locals) ≡ true → AllByRecursion (λ n. n < 2 ^ 64) locals
    → locals_at (locals_bytes locals) ≡ Ok (locals, [])
unfolding locals_at
locals_back locals some fit =
    let few : length locals ≤ 1024 = leb-true _ _ (and_parts _ _ some).1 in
    ap (λ (read : Result (ℕ × List ℕ) ℕ). goes_on read (λ (count : ℕ). numbers_at [] count))
    (field_back (2 ^ 16) u16_bytes u16_at is_local_count (length locals) (flat_map u64_bytes locals) u16_field (omega (arith, few)) some)
    ∙ numbers_back locals [] fit

txn_rest : (txn : Txn) → txn_bytes txn ≡ u64_bytes txn.number ++ (u64_bytes txn.container ++ locals_bytes txn.locals)
unfolding u64_bytes
txn_rest txn = refl

txn_back : (made : Made) (txn : Txn) → txn.number < 2 ^ 64 → txn.container < 2 ^ 64 → AllByRecursion (λ n. n < 2 ^ 64) txn.locals → MayLog made txn
    → txn_at made (u64_bytes txn.number ++ (u64_bytes txn.container ++ locals_bytes txn.locals)) ≡ Ok (txn, [])
unfolding txn_at
txn_back made txn one two fit may =
    ap (λ (read : Result (ℕ × List ℕ) ℕ). goes_on read
    (λ (number : ℕ) (bytes : List ℕ). goes_on (field u64_at (is_made made.containers) bytes)
    (λ (container : ℕ) (bytes : List ℕ). goes_on (locals_at bytes)
    (λ (locals : List ℕ). done (record { number = number; container = container; locals = locals })))))
    (field_back (2 ^ 64) u64_bytes u64_at (is_next_txn made.last_txn) txn.number (u64_bytes txn.container ++ locals_bytes txn.locals) u64_field one may.number_is)
    ∙ (ap (λ (read : Result (ℕ × List ℕ) ℕ). goes_on read
    (λ (container : ℕ) (bytes : List ℕ). goes_on (locals_at bytes)
    (λ (locals : List ℕ). done (record { number = txn.number; container = container; locals = locals }))))
    (field_back (2 ^ 64) u64_bytes u64_at (is_made made.containers) txn.container (locals_bytes txn.locals) u64_field two may.container_is)
    ∙ ap (λ (read : Result (List ℕ × List ℕ) ℕ). goes_on read
    (λ (locals : List ℕ). done (record { number = txn.number; container = txn.container; locals = locals })))
    (locals_back txn.locals may.count_is fit))

pub logged_back : (made : Made) (txn : Txn) → txn.number < 2 ^ 64 → txn.container < 2 ^ 64 → AllByRecursion (λ n. n < 2 ^ 64) txn.locals → MayLog made txn
    → body_at (Some made) (entry_bytes (Logged txn)) ≡ Ok (Logged txn)
unfolding entry_at logged_at
logged_back made txn one two fit may =
    ap (λ (read : Result (Txn × List ℕ) ℕ). whole (length (entry_bytes (Logged txn))) (goes_on read (λ (txn : Txn). done (Logged txn))))
    (ap (txn_at made) (txn_rest txn) ∙ txn_back made txn one two fit may)

pub acked_back : (made : Made) (number dn : ℕ) → number < 2 ^ 64 → dn < 2 ^ 8 → MayAck made number dn
    → body_at (Some made) (entry_bytes (Acked number dn)) ≡ Ok (Acked number dn)
unfolding entry_at acked_at
acked_back made number dn one two may =
    ap (whole (length (entry_bytes (Acked number dn)))) (
    ap (λ (read : Result (ℕ × List ℕ) ℕ). goes_on read
    (λ (number : ℕ) (bytes : List ℕ). goes_on (field u8_at (may_ack made number) bytes) (λ (dn : ℕ). done (Acked number dn))))
    (field_back (2 ^ 64) u64_bytes u64_at (is_unretired made) number (u8_bytes dn) u64_field one (owed_there (get made.unretired number) made dn may))
    ∙ ap (λ (read : Result (ℕ × List ℕ) ℕ). goes_on read (λ (dn : ℕ). done (Acked number dn)))
    (field_back (2 ^ 8) u8_bytes u8_at (may_ack made number) dn [] u8_field two may))
  where
    owed_there : (o : Option LoggedTxn) (made : Made) (dn : ℕ) → option_map_or (is_owed_by made dn) o false ≡ true → is_some o ≡ true
    owed_there None made dn is = absurd (cc is)
    owed_there (Some logged) made dn is = refl

pub retired_back : (made : Made) (number : ℕ) → number < 2 ^ 64 → MayRetire made number
    → body_at (Some made) (entry_bytes (Retired number)) ≡ Ok (Retired number)
unfolding entry_at retired_at u64_bytes
retired_back made number fits may =
    ap (whole (length (entry_bytes (Retired number)))) (
    ap (λ (read : Result (ℕ × List ℕ) ℕ). goes_on read (λ (number : ℕ). done (Retired number)))
    (field_back (2 ^ 64) u64_bytes u64_at (is_done (log_of made)) number [] u64_field fits may))

-- so is a step
pub step_back : (made : Made) (container : ℕ) (event : Event) → container < 2 ^ 64 → MayStep made container event
    → body_at (Some made) (entry_bytes (Stepped container event)) ≡ Ok (Stepped container event)
unfolding entry_at stepped_at
step_back made container event fits may =
    ap (whole (length (entry_bytes (Stepped container event)))) (
    ap (λ (read : Result (ℕ × List ℕ) ℕ). goes_on read
    (λ (container : ℕ) (bytes : List ℕ). goes_on (event_at (container_at made.containers container) bytes)
    (λ (event : Event). done (Stepped container event))))
    (field_back (2 ^ 64) u64_bytes u64_at (is_made made.containers) container (u8_bytes (event_number event)) u64_field fits
    (may_made made container event may))
    ∙ ap (λ (read : Result (Event × List ℕ) ℕ). goes_on read (λ (event : Event). done (Stepped container event)))
    (event_back (container_at made.containers container) event [] may))

-- ---- bodies one after another

pub followed_ok : (read : Result Entry ℕ) (next : Entry → Result (Option Made) Fault) (x : Option Made) → followed_by read next ≡ Ok x → (entry : Entry)
    × (read ≡ Ok entry) × (next entry ≡ Ok x)
followed_ok (Err at) next x e = absurd (cc e)
followed_ok (Ok entry) next x e = (entry, refl, unbehind (next entry) x e)
  where
    unbehind : (made : Result (Option Made) Fault) (x : Option Made) → behind_one made ≡ Ok x → made ≡ Ok x
    unbehind (Ok y) x e = e
    unbehind (Err fault) x e = absurd (cc e)

-- one body more
pub makes_push : (found : Option Made) (bodies : List (List ℕ)) (between : Option Made) (bytes : List ℕ) (entry : Entry)
    → made_from found bodies ≡ Ok between → body_at between bytes ≡ Ok entry → made_from found (bodies ++ bytes ∷ []) ≡ Ok (after_entry entry between)
unfolding made_from
makes_push found [] between bytes entry makes reads =
    let same : found ≡ between = cc makes in
    subst (λ (f : Option Made). followed_by (body_at f bytes) (λ e. made_from (after_entry e f) []) ≡ Ok (after_entry entry between)) (sym same)
    (ap (λ (read : Result Entry ℕ). followed_by read (λ e. made_from (after_entry e between) [])) reads)
makes_push found (first ∷ bodies) between bytes entry makes reads =
    let one = followed_ok (body_at found first) _ between makes in
    ap (λ (read : Result Entry ℕ). followed_by read (λ e. made_from (after_entry e found) (bodies ++ bytes ∷ []))) one.1
    ∙ ap behind_one (makes_push (after_entry one.0 found) bodies between bytes entry one.2 reads)

-- behind so many good bodies stands one that is damaged
fails_push : (found : Option Made) (bodies : List (List ℕ)) (between : Option Made) (bytes : List ℕ) (later : List (List ℕ)) (at : ℕ)
    → made_from found bodies ≡ Ok between → body_at between bytes ≡ Err at
    → made_from found (bodies ++ bytes ∷ later) ≡ Err (record { body = length bodies; at = at })
unfolding made_from
fails_push found [] between bytes later at makes reads =
    let same : found ≡ between = cc makes in
    subst (λ (f : Option Made). followed_by (body_at f bytes) (λ e. made_from (after_entry e f) later) ≡ Err (record { body = 0; at = at })) (sym same)
    (ap (λ (read : Result Entry ℕ). followed_by read (λ e. made_from (after_entry e between) later)) reads)
fails_push found (first ∷ bodies) between bytes later at makes reads =
    let one = followed_ok (body_at found first) _ between makes in
    ap (λ (read : Result Entry ℕ). followed_by read (λ e. made_from (after_entry e found) (bodies ++ bytes ∷ later))) one.1
    ∙ ap behind_one (fails_push (after_entry one.0 found) bodies between bytes later at one.2 reads)

pub none_made : Makes [] None
unfolding made_from
none_made = refl

bodies_more : (bodies : List Body) (k : ℕ) (body : Body) → k < length bodies → body ≡ get_or bodies k body
    → bodies_in (take (suc k) bodies) ≡ bodies_in (take k bodies) ++ body.bytes ∷ []
bodies_more [] k body lt it = absurd (omega (arith, lt))
bodies_more (first ∷ bodies) zero body lt it = ap (λ (body : Body). body.bytes ∷ []) (sym it)
bodies_more (first ∷ bodies) (suc k) body lt it = ap (λ (texts : List (List ℕ)). first.bytes ∷ texts) (bodies_more bodies k body (omega (arith, lt)) it)

pub one_more_made : (bodies : List Body) (k : ℕ) (body : Body) (before after : Option Made) (entry : Entry) → k < length bodies
    → body ≡ get_or bodies k body → Makes (bodies_in (take k bodies)) before → body_at before body.bytes ≡ Ok entry → after ≡ after_entry entry before
    → Makes (bodies_in (take (suc k) bodies)) after
one_more_made bodies k body before after entry lt it so_far reads is =
    subst (λ (texts : List (List ℕ)). Makes texts after) (sym (bodies_more bodies k body lt it))
    (subst (λ (found : Option Made). Makes (bodies_in (take k bodies) ++ body.bytes ∷ []) found) (sym is)
    (makes_push None (bodies_in (take k bodies)) before body.bytes entry so_far reads))

bodies_split : (a : List Body) (body : Body) (b : List Body) → bodies_in (a ++ body ∷ b) ≡ bodies_in a ++ body.bytes ∷ bodies_in b
bodies_split [] body b = refl
bodies_split (first ∷ a) body b = ap (λ (texts : List (List ℕ)). first.bytes ∷ texts) (bodies_split a body b)

so_many : (bodies : List Body) (k : ℕ) → k ≤ length bodies → length (bodies_in (take k bodies)) ≡ k
so_many bodies zero le = refl
so_many [] (suc k) le = absurd (omega (arith, le))
so_many (first ∷ bodies) (suc k) le = let rest = so_many bodies k (omega (arith, le)) in omega (arith, rest)

parts_at : (bodies : List Body) (k : ℕ) (d : Body) → k < length bodies → bodies ≡ take k bodies ++ get_or bodies k d ∷ drop (suc k) bodies
parts_at [] k d lt = absurd (omega (arith, lt))
parts_at (first ∷ bodies) zero d lt = refl
parts_at (first ∷ bodies) (suc k) d lt = ap (λ (l : List Body). first ∷ l) (parts_at bodies k d (omega (arith, lt)))

pub fails_here : (bodies : List Body) (k : ℕ) (body : Body) (before : Option Made) (at : ℕ) → k < length bodies → body ≡ get_or bodies k body
    → Makes (bodies_in (take k bodies)) before → body_at before body.bytes ≡ Err at → FailsAt (bodies_in bodies) k at
fails_here bodies k body before at lt it so_far reads =
    let parts = parts_at bodies k body lt ∙ ap (λ (other : Body). take k bodies ++ other ∷ drop (suc k) bodies) (sym it) in
    subst (λ (texts : List (List ℕ)). FailsAt texts k at) (sym (ap bodies_in parts ∙ bodies_split (take k bodies) body (drop (suc k) bodies)))
    (subst (λ (n : ℕ). FailsAt (bodies_in (take k bodies) ++ body.bytes ∷ bodies_in (drop (suc k) bodies)) n at) (so_many bodies k (omega (arith, lt)))
    (fails_push None (bodies_in (take k bodies)) before body.bytes (bodies_in (drop (suc k) bodies)) at so_far reads))

-- a fault lies within one of the bodies
whole_err : (size : ℕ) (read : Result (Entry × List ℕ) ℕ) (at : ℕ) → whole size read ≡ Err at → at ≤ size
whole_err size (Err left) at e = let is : size - left ≡ at = cc e in omega (arith, is)
whole_err size (Ok (one, [])) at e = absurd (cc e)
whole_err size (Ok (one, byte ∷ rest)) at e = let is : size - suc (length rest) ≡ at = cc e in omega (arith, is)

followed_err : (read : Result Entry ℕ) (next : Entry → Result (Option Made) Fault) (fault : Fault) → followed_by read next ≡ Err fault
    → ((read ≡ Err fault.at) × (fault.body ≡ 0))
    ⊎ ((entry : Entry) × (read ≡ Ok entry) × ((before : Fault) × (next entry ≡ Err before)
    × (fault ≡ record { body = suc before.body; at = before.at })))
followed_err (Err at) next fault e =
    let is : ◌≡◌ {A = Fault} (record { body = 0; at = at }) fault = cc e in
    inl (ap (λ (f : Fault). Err f.at) is, ap (λ (f : Fault). f.body) (sym is))
followed_err (Ok entry) next fault e = inr (entry, refl, unbehind (next entry) fault e)
  where
    unbehind : (made : Result (Option Made) Fault) (fault : Fault) → behind_one made ≡ Err fault → (before : Fault) × (made ≡ Err before)
        × (fault ≡ record { body = suc before.body; at = before.at })
    unbehind (Ok y) fault e = absurd (cc e)
    unbehind (Err before) fault e = (before, refl, cc (sym e))

pub fault_within : (bodies : List (List ℕ)) (found : Option Made) (fault : Fault) → made_from found bodies ≡ Err fault → (body : List ℕ)
    × (slice_get bodies fault.body ≡ Some body) × (fault.at ≤ length body)
unfolding made_from
fault_within [] found fault e = absurd (cc e)
fault_within (bytes ∷ bodies) found fault e = elim (followed_err (body_at found bytes) _ fault e) [
  | inl here ↦ (
    bytes,
    subst (λ (n : ℕ). slice_get (bytes ∷ bodies) n ≡ Some bytes) (sym here.1) refl,
    whole_err (length bytes) (entry_at found bytes) fault.at here.0,
  )
  | inr there ↦
      let before = there.2.0 in
      let is = there.2.2 in
      let rest = fault_within bodies (after_entry there.0 found) before there.2.1 in (
        rest.0,
        subst (λ (f : Fault). slice_get (bytes ∷ bodies) f.body ≡ Some rest.0) (sym is) rest.1,
        subst (λ (f : Fault). f.at ≤ length rest.0) (sym is) rest.2,
      )
]

-- ---- no id is granted twice

-- an entry behind what is made, where what stands behind it is fresh
entry_fresh : (entry : Entry) (bodies : List (List ℕ)) (made later : Made) → MayFollow (Some made) entry
    → ((between : Made) → after_entry entry (Some made) ≡ Some between → AreFresh between.next_id (said_from (Some between) bodies) later.next_id)
    → AreFresh made.next_id (said_by (Ok entry) (λ (entry : Entry). said_from (after_entry entry (Some made)) bodies)) later.next_id
entry_fresh (Nodes count) bodies made later follows rest = absurd follows
entry_fresh (Granted stripe grant) bodies made later follows rest =
    let first : grant.first ≡ made.next_id = eqb-true _ _ (and_parts _ _ follows.1.first_is).0 in
    (omega (arith, first), rest (after_grant grant made) refl)
entry_fresh (Stepped container event) bodies made later follows rest = rest (after_step container event made) refl
entry_fresh (Logged txn) bodies made later follows rest = rest (after_log txn made) refl
entry_fresh (Acked number dn) bodies made later follows rest = rest (after_ack number dn made) refl
entry_fresh (Retired number) bodies made later follows rest = rest (after_retirement number made) refl

fresh_from : (bodies : List (List ℕ)) (made later : Made) → made_from (Some made) bodies ≡ Ok (Some later)
    → AreFresh made.next_id (said_from (Some made) bodies) later.next_id
unfolding made_from said_from
fresh_from [] made later e = let same : made ≡ later = cc e in omega (arith, ap (λ (m : Made). m.next_id) same)
fresh_from (bytes ∷ bodies) made later e =
    let one = followed_ok (body_at (Some made) bytes) _ (Some later) e in
    subst (λ (read : Result Entry ℕ). AreFresh made.next_id
    (said_by read (λ (entry : Entry). said_from (after_entry entry (Some made)) bodies)) later.next_id) (sym one.1)
    (entry_fresh one.0 bodies made later (body_follows (Some made) bytes one.0 one.1)
    (λ between is. fresh_from bodies between later (subst (λ (f : Option Made). made_from f bodies ≡ Ok (Some later)) is one.2)))

first_fresh : (entry : Entry) (bodies : List (List ℕ)) (made : Made) → MayFollow None entry
    → ((between : Made) → after_entry entry None ≡ Some between → AreFresh between.next_id (said_from (Some between) bodies) made.next_id)
    → AreFresh 1 (said_by (Ok entry) (λ (entry : Entry). said_from (after_entry entry None) bodies)) made.next_id
first_fresh (Nodes count) bodies made follows rest = rest (begun count) refl
first_fresh (Granted stripe grant) bodies made follows rest = absurd follows
first_fresh (Stepped container event) bodies made follows rest = absurd follows
first_fresh (Logged txn) bodies made follows rest = absurd follows
first_fresh (Acked number dn) bodies made follows rest = absurd follows
first_fresh (Retired number) bodies made follows rest = absurd follows

pub fresh : (bodies : List (List ℕ)) (made : Made) → Makes bodies (Some made) → AreFresh 1 (grants_in bodies) made.next_id
unfolding made_from said_from
fresh [] made e = absurd (cc e)
fresh (bytes ∷ bodies) made e =
    let one = followed_ok (body_at None bytes) _ (Some made) e in
    subst (λ (read : Result Entry ℕ). AreFresh 1 (said_by read (λ (entry : Entry). said_from (after_entry entry None) bodies)) made.next_id) (sym one.1)
    (first_fresh one.0 bodies made (body_follows None bytes one.0 one.1)
    (λ between is. fresh_from bodies between made (subst (λ (f : Option Made). made_from f bodies ≡ Ok (Some made)) is one.2)))

-- ---- the laws, as calls state them

pub one_thing : (bodies : List (List ℕ)) (found other : Option Made) → Makes bodies found → Makes bodies other → found ≡ other
one_thing bodies found other one two = let both : ◌≡◌ {A = Result (Option Made) Fault} (Ok found) (Ok other) = sym one ∙ two in cc both

pub not_both : (bodies : List (List ℕ)) (found : Option Made) (body at : ℕ) → Makes bodies found → FailsAt bodies body at → ⊥
not_both bodies found body at makes fails = let both : ◌≡◌ {A = Result (Option Made) Fault} (Ok found) (Err (record { body = body; at = at })) = sym makes
    ∙ fails in absurd (cc both)

pub one_fault : (bodies : List (List ℕ)) (body at other place : ℕ) → FailsAt bodies body at → FailsAt bodies other place → (body ≡ other) × (at ≡ place)
one_fault bodies body at other place one two =
    let both : ◌≡◌ {A = Result (Option Made) Fault} (Err (record { body = body; at = at })) (Err (record { body = other; at = place })) = sym one ∙ two in
    let same : ◌≡◌ {A = Fault} (record { body = body; at = at }) (record { body = other; at = place }) = cc both in
    (ap (λ (f : Fault). f.body) same, ap (λ (f : Fault). f.at) same)

pub within : (bodies : List (List ℕ)) (body at : ℕ) → FailsAt bodies body at → (bytes : List ℕ) × (slice_get bodies body ≡ Some bytes) × (at ≤ length bytes)
within bodies body at fails = fault_within bodies None (record { body = body; at = at }) fails

pub first_made : (count : ℕ) → is_node_count count ≡ true → Makes (entry_bytes (Nodes count) ∷ []) (Some (begun count))
first_made count many =
    let most : count ≤ 16 = leb-true _ _ (and_parts _ _ many).1 in
    let fits : count < 2 ^ 8 = omega (arith, most) in
    makes_push None [] None (entry_bytes (Nodes count)) (Nodes count) none_made (nodes_back count fits many)

pub grant_made : (bodies : List (List ℕ)) (made : Made) (stripe : ℕ) (grant : Grant) → Makes bodies (Some made) → is_stripe stripe ≡ true
    → MayGrant made grant → grant.container < 2 ^ 64 → grant.pipeline < 2 ^ 8
    → Makes (bodies ++ entry_bytes (Granted stripe grant) ∷ []) (Some (after_grant grant made))
grant_made bodies made stripe grant makes of_stripe may one two =
    makes_push None bodies (Some made) (entry_bytes (Granted stripe grant)) (Granted stripe grant) makes
    (grant_back made stripe grant one two of_stripe may)

pub step_made : (bodies : List (List ℕ)) (made : Made) (container : ℕ) (event : Event) → Makes bodies (Some made) → MayStep made container event
    → container < 2 ^ 64 → Makes (bodies ++ entry_bytes (Stepped container event) ∷ []) (Some (after_step container event made))
step_made bodies made container event makes may fits =
    makes_push None bodies (Some made) (entry_bytes (Stepped container event)) (Stepped container event) makes
    (step_back made container event fits may)

pub log_made : (bodies : List (List ℕ)) (made : Made) (txn : Txn) → Makes bodies (Some made) → MayLog made txn → txn.number < 2 ^ 64
    → txn.container < 2 ^ 64 → AllByRecursion (λ n. n < 2 ^ 64) txn.locals → Makes (bodies ++ entry_bytes (Logged txn) ∷ []) (Some (after_log txn made))
log_made bodies made txn makes may one two fit =
    makes_push None bodies (Some made) (entry_bytes (Logged txn)) (Logged txn) makes (logged_back made txn one two fit may)

pub ack_made : (bodies : List (List ℕ)) (made : Made) (number dn : ℕ) → Makes bodies (Some made) → MayAck made number dn → number < 2 ^ 64
    → dn < 2 ^ 8 → Makes (bodies ++ entry_bytes (Acked number dn) ∷ []) (Some (after_ack number dn made))
ack_made bodies made number dn makes may one two =
    makes_push None bodies (Some made) (entry_bytes (Acked number dn)) (Acked number dn) makes (acked_back made number dn one two may)

pub retirement_made : (bodies : List (List ℕ)) (made : Made) (number : ℕ) → Makes bodies (Some made) → MayRetire made number → number < 2 ^ 64
    → Makes (bodies ++ entry_bytes (Retired number) ∷ []) (Some (after_retirement number made))
retirement_made bodies made number makes may fits =
    makes_push None bodies (Some made) (entry_bytes (Retired number)) (Retired number) makes (retired_back made number fits may)

-- ---- what was made stays

still_made : (bodies : List (List ℕ)) (made : Made) → made_from (Some made) bodies ≡ Ok None → ⊥
unfolding made_from
still_made [] made e = absurd (cc e)
still_made (bytes ∷ bodies) made e =
    let one = followed_ok (body_at (Some made) bytes) (λ (entry : Entry). made_from (after_entry entry (Some made)) bodies) None e in
    of_entry one.0 (λ between is. still_made bodies between (subst (λ (f : Option Made). made_from f bodies ≡ Ok None) is one.2))
    (body_follows (Some made) bytes one.0 one.1)
  where
    of_entry : (entry : Entry) → ((between : Made) → after_entry entry (Some made) ≡ Some between → ⊥) → MayFollow (Some made) entry → ⊥
    of_entry (Nodes count) rest follows = follows
    of_entry (Granted stripe grant) rest follows = rest (after_grant grant made) refl
    of_entry (Stepped container event) rest follows = rest (after_step container event made) refl
    of_entry (Logged txn) rest follows = rest (after_log txn made) refl
    of_entry (Acked number dn) rest follows = rest (after_ack number dn made) refl
    of_entry (Retired number) rest follows = rest (after_retirement number made) refl

-- only no body makes nothing
pub none_makes : (bodies : List (List ℕ)) → Makes bodies None → bodies ≡ []
unfolding made_from
none_makes [] e = refl
none_makes (bytes ∷ bodies) e =
    let one = followed_ok (body_at None bytes) (λ (entry : Entry). made_from (after_entry entry None) bodies) None e in
    absurd (of_entry one.0 (λ between is. still_made bodies between (subst (λ (f : Option Made). made_from f bodies ≡ Ok None) is one.2))
    (body_follows None bytes one.0 one.1))
  where
    of_entry : (entry : Entry) → ((between : Made) → after_entry entry None ≡ Some between → ⊥) → MayFollow None entry → ⊥
    of_entry (Nodes count) rest follows = rest (begun count) refl
    of_entry (Granted stripe grant) rest follows = follows
    of_entry (Stepped container event) rest follows = follows
    of_entry (Logged txn) rest follows = follows
    of_entry (Acked number dn) rest follows = follows
    of_entry (Retired number) rest follows = follows
