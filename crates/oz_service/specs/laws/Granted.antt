-- A block that is granted is in reach right behind its Decide. So one that left reach at index 0 was there as the run began.
use Rattle.std.proofs.Common.{◌≡◌, ℕ, suc, List, [], ◌∷◌, ◌++◌, take, Option, None, Some, Contains, cond}
use Rattle.std.proofs.Common.{inl, inr, refl, sym, ◌∙◌, ap, subst, arith}
use Rattle.std.proofs.lemmas.Cmp.{eq_by_cmp_equiv, nat_cmp_total}
use Rattle.std.proofs.lemmas.List.Elements.{Contains-append_right}
use Rattle.std.proofs.lemmas.Option.{none-some}
use Rattle.std.specs.Cmp.{IsTotalOrder}
use Rattle.std.specs.Cmp.Lexicographic.{nat_list_cmp_total}
use Rattle.std.specs.FinMap.{FinMap, get, get-insert, insert}
use Rattle.std.specs.List.{slice_get}
use Rattle.std.specs.Option.{option_and_then}
use Rattle.std.specs.declared.cmp.Ordering.{Ordering}
use Rattle.oz_fields.specs.declared.block.Block.{Block}
use Rattle.oz_names.specs.declared.code.Code.{Code}
use Rattle.oz_namespace.specs.declared.namespace.Bucket.{Bucket}
use Rattle.oz_namespace.specs.declared.namespace.Namespace.{Namespace}
use Rattle.oz_namespace.specs.declared.namespace.Session.{Session}
use Rattle.oz_namespace.specs.Namespace.{ByName}
use Rattle.oz_requests.specs.declared.request.Exclude.{Exclude}
use Rattle.oz_requests.specs.declared.request.Request.{Request}
use Rattle.oz_requests.specs.declared.request.Request.TheVariants.{AllocateBlock}
use Rattle.oz_requests.specs.declared.reply.Reply.{Reply}
use Rattle.oz_requests.specs.declared.reply.Reply.TheVariants as replies
use Rattle.oz_requests.specs.Names.{volume_in}
use Rattle.oz_model.specs.declared.scope.Scope.{Scope}
use Rattle.oz_model.specs.Answers.{Answers, after, reply_from}
use Rattle.oz_model.specs.Buckets.{bucket_in, buckets_in, granted_by, session_blocks, with_session}
use Rattle.oz_model.specs.Reach.{IsReached}
use Rattle.oz_model.specs.Refusals.{refusal}
use Rattle.oz_model.specs.Scope.{scope_of}
use Rattle.oz_model.specs.laws.Grants.{grants_none}
use Rattle.oz_core.specs.declared.event.Event.{Event}
use Rattle.oz_core.specs.declared.event.EventKind.{EventKind}
use Rattle.oz_core.specs.declared.event.EventKind.TheVariants.{Decide}
use Rattle.oz_core.specs.declared.opening.Opening.{Opening}
use Rattle.oz_core.specs.Law.{DecideIsEnabled, IsLegal}
use Rattle.oz_core.specs.Manager.{IsUsed, block_of_reply, granted_block, namespace_of}
use Rattle.oz_core.specs.Stories.{all_told}
use Rattle.oz_kept.specs.laws.Contents.{front_grows}
use Rattle.oz_kept.specs.laws.Deleted.{enabled_at, found_at}
use Rattle.oz_kept.specs.laws.Granted.{told_among}
use Rattle.oz_kept.specs.laws.Reached.{in_none}
use Rattle.oz_kept.specs.reopened.laws.Named.{IsTold, told_event}
use Rattle.oz_store.specs.striped.laws.Stories.{decided_next}
use Rattle.oz_owned.specs.Left.{LeftAt}

-- what is put under a key is found there
put_there : {K X : Type 0} {R : K → K → Ordering} (o : IsTotalOrder R) (m : FinMap R X) (k : K) (v : X) → get (insert m k v) k ≡ Some v
put_there {K} {X} {R} o m k v = get-insert o m k v k ∙ ap (λ t. cond t (Some v) (get m k)) ((eq_by_cmp_equiv o).refl k)

some_block : (a b : Block) → Some a ≡ Some b → a ≡ b
some_block a b e = cc

its_block : (reply : Reply) (block : Block) → block_of_reply reply ≡ Some block → granted_by reply ≡ block ∷ []
its_block (replies.Granted given pipeline) block e = ap (λ b. b ∷ []) (some_block given block e)
its_block reply block e = absurd (none-some block e)

-- ---- what is granted is reached

module _ (namespace : Namespace) (volume name key : List ℕ) (number : ℕ) (exclude : Exclude) (block : Block) (pipeline : ℕ) where
  abbrev scope : Scope
  scope = scope_of namespace volume

  abbrev session : Session
  session = record { key = key; blocks = session_blocks (bucket_in scope name) number ++ block ∷ [] }

  abbrev bucket : Bucket
  bucket = with_session (bucket_in scope name) number key (session_blocks (bucket_in scope name) number ++ block ∷ [])

  in_its_session : IsReached (after namespace (AllocateBlock volume name key number exclude) (replies.Granted block pipeline)) block
  unfolding after
  in_its_session = record {
    volume = volume;
    name = name;
    bucket = bucket;
    is_there = ap (option_and_then (λ (buckets : ByName Bucket). get buckets name))
        (put_there nat_list_cmp_total namespace.volumes volume (insert (buckets_in scope.buckets) name bucket))
        ∙ put_there nat_list_cmp_total (buckets_in scope.buckets) name bucket;
    has = inr (inl (record {
      number = number;
      session = session;
      is_there = put_there nat_cmp_total (bucket_in scope name).sessions number session;
      has = Contains-append_right (session_blocks (bucket_in scope name) number) (block ∷ []) block (0, omega arith, refl);
    }));
  }

granted_is_reached : (namespace : Namespace) (request : Request) (reply : Reply) (block : Block) → Answers namespace request reply
    → block_of_reply reply ≡ Some block → IsReached (after namespace request reply) block
unfolding Answers
granted_is_reached namespace (AllocateBlock volume name key number exclude) reply block (given, pipeline, is) e =
    by (refusal (scope_of namespace volume) (AllocateBlock volume name key number exclude)) is
  where
    by : (o : Option Code) → reply ≡ reply_from o (replies.Granted given pipeline)
        → IsReached (after namespace (AllocateBlock volume name key number exclude) reply) block
    by None is =
        let same : given ≡ block = some_block given block (ap block_of_reply (sym is) ∙ e) in
        subst (λ (r : Reply). IsReached (after namespace (AllocateBlock volume name key number exclude) r) block) (sym is)
        (subst (λ (b : Block). IsReached (after namespace (AllocateBlock volume name key number exclude) (replies.Granted b pipeline)) block) (sym same)
        (in_its_session namespace volume name key number exclude block pipeline))
    by (Some code) is = absurd (none-some block (ap block_of_reply (sym is) ∙ e))
granted_is_reached namespace request reply block answers e =
    let none = grants_none (refusal (scope_of namespace (volume_in request)) request) (scope_of namespace (volume_in request)) request reply
    (λ e. absurd cc) answers in
    absurd (in_none block (subst (λ (l : List Block). Contains l block) (sym (its_block reply block e) ∙ none) (0, omega arith, refl)))

-- ---- so index 0 is of what was there

module _ (opening : Opening) (story : List Event) (legal : IsLegal opening story) (block : Block) (left : LeftAt opening story block 0) where
  not_granted : Contains (all_told granted_block story) block → ⊥
  not_granted among = by told.event.kind refl
    where
      told : IsTold granted_block story block
      told = told_event granted_block story block among

      by : (kind : EventKind) → told.event.kind ≡ kind → ⊥
      by (Decide id index reply batch) e =
          let event : Event = record { seat = told.event.seat; kind = Decide id index reply batch } in
          let place = told.there.0 in
          let at : slice_get story place ≡ Some event =
          found_at story told.event told.there ∙ ap (λ (kind : EventKind). Some (record { seat = told.event.seat; kind = kind })) e in
          let enabled : DecideIsEnabled opening (take place story) told.event.seat id index reply batch = enabled_at opening story legal place event at in
          let granted : block_of_reply reply ≡ Some block = sym (ap granted_block e) ∙ told.told in
          let grown : take (suc place) story ≡ take place story ++ event ∷ [] = front_grows story place event at in
          let reached = subst (λ (n : Namespace). IsReached n block)
          (sym (decided_next opening (take place story) told.event.seat id index reply batch enabled.request enabled.undecided))
          (granted_is_reached (namespace_of opening (take place story)) enabled.request reply block enabled.one_thread granted) in
          let used : IsUsed opening (take place story ++ event ∷ []) block =
          inr (inr (inr (told_among granted_block (take place story ++ event ∷ []) event block
          (Contains-append_right (take place story) (event ∷ []) event (0, omega arith, refl)) granted))) in
          left.away (suc place) (subst (λ (l : List Event). IsUsed opening l block) (sym grown) used) (omega arith)
          (subst (λ (l : List Event). IsReached (namespace_of opening l) block) (sym grown) reached)
      by kind e = absurd (none-some block (sym (ap granted_block e) ∙ told.told))

  pub was_there : IsUsed opening story block → IsUsed opening [] block
  was_there (inl reached) = inl reached
  was_there (inr (inl there)) = inr (inl there)
  was_there (inr (inr (inl logged))) = inr (inr (inl logged))
  was_there (inr (inr (inr granted))) = absurd (not_granted granted)
