-- The front of a story as the story goes on by an event: it stays, or all of the story is front.
use Rattle.std.proofs.Common.{◌≡◌, ◌⊎◌, ⊎_elim, ℕ, ◌<◌, ◌≤◌, nat_le, List, [], ◌∷◌, ◌++◌, length, Option, None, Some}
use Rattle.std.proofs.Common.{append-nil, append_assoc, cond, Bool, true, inl, inr, arith, refl, sym, ◌∙◌, ap, subst}
use Rattle.std.proofs.lemmas.Bool.{lt-leb}
use Rattle.std.proofs.lemmas.List.{length-append}
use Rattle.std.proofs.lemmas.List.Elements.{Contains-append_cases, filter_map-append}
use Rattle.std.specs.List.{cons_option}
use Rattle.oz_fields.specs.declared.block.Block.{Block}
use Rattle.oz_namespace.specs.declared.namespace.Namespace.{Namespace}
use Rattle.oz_core.specs.declared.event.Event.{Event}
use Rattle.oz_core.specs.declared.event.EventKind.{EventKind}
use Rattle.oz_core.specs.declared.event.EventKind.TheVariants.{Decide}
use Rattle.oz_core.specs.declared.opening.Opening.{Opening}
use Rattle.oz_core.specs.Law.{IsLegal}
use Rattle.oz_core.specs.Manager.{block_of_reply, decided_index, granted_block, kept_block, kept_up_to, last_index}
use Rattle.oz_core.specs.Manager.{namespace_from, namespace_of, namespace_step}
use Rattle.oz_core.specs.Stories.{all_told, newer}
use Rattle.oz_kept.specs.laws.Deleted.{first_or_later}
use Rattle.oz_kept.specs.laws.Kept.{indexes_rise, last_next}
use Rattle.oz_kept.specs.laws.Places.{legal_behind, namespace_next, namespace_parts}
use Rattle.oz_kept.specs.laws.Reached.{in_none}
use Rattle.oz_owned.specs.Front.{IsFrontOf}
use Rattle.oz_owned.specs.laws.Front.{block_low, step_high, step_low}

none_longer : (l more : List Event) → l ++ more ≡ l → more ≡ []
none_longer l [] same = refl
none_longer l (event ∷ more) same = absurd (omega (arith, ap length same, length-append l (event ∷ more)))

no_first : (a b : List Event) → a ++ b ≡ [] → a ≡ []
no_first [] b none = refl
no_first (event ∷ a) b none = absurd cc

cons_both : (x y : Event) (a b : List Event) → x ≡ y → a ≡ b → x ∷ a ≡ y ∷ b
cons_both x y a b head tail = cc

head_of : (x y : Event) (a b : List Event) → x ∷ a ≡ y ∷ b → x ≡ y
head_of x y a b same = cc

tail_of : (x y : Event) (a b : List Event) → x ∷ a ≡ y ∷ b → a ≡ b
tail_of x y a b same = cc

-- a beginning of a story that ends with an event is all of it, or a beginning of what stands before the event
ends : (start rest before : List Event) (event : Event) → before ++ event ∷ [] ≡ start ++ rest
    → (start ≡ before ++ event ∷ []) ⊎ ((others : List Event) × (before ≡ start ++ others))
ends [] rest before event same = inr (before, refl)
ends (first ∷ start) rest [] event same =
    inl (cons_both first event start [] (head_of first event (start ++ rest) [] (sym same))
    (no_first start rest (tail_of first event (start ++ rest) [] (sym same))))
ends (first ∷ start) rest (other ∷ before) event same =
    let head = head_of first other (start ++ rest) (before ++ event ∷ []) (sym same) in
    ⊎_elim
    (λ all. inl (cons_both first other start (before ++ event ∷ []) head all))
    (λ part. inr (part.0, cons_both other first before (start ++ part.0) (sym head) part.1))
    (ends start rest before event (sym (tail_of first other (start ++ rest) (before ++ event ∷ []) (sym same))))

module _ (opening : Opening) (most : ℕ) (story : List Event) (event : Event) where
  kept_next : kept_up_to opening most (story ++ event ∷ []) ≡ namespace_step (λ index. nat_le index most) story (kept_up_to opening most story) event.kind
  unfolding namespace_from
  kept_next = namespace_parts (λ index. nat_le index most) [] opening.namespace story (event ∷ [])

  blocks_next : (tells : EventKind → Option Block) → all_told tells (story ++ event ∷ []) ≡ all_told tells story ++ cons_option (tells event.kind) []
  blocks_next tells = filter_map-append (λ (e : Event). tells e.kind) story (event ∷ [])

  -- what the last index says of the index of the event
  over_next : most < last_index opening (story ++ event ∷ []) → (index : ℕ) → decided_index event.kind ≡ Some index → most < index
  over_next over index is =
      subst (λ (n : ℕ). most < n) (last_next opening story event ∙ ap (λ (o : Option ℕ). newer o (last_index opening story)) is) over

  low_next : last_index opening (story ++ event ∷ []) ≤ most → (index : ℕ) → decided_index event.kind ≡ Some index → index ≤ most
  low_next low index is =
      subst (λ (n : ℕ). n ≤ most) (last_next opening story event ∙ ap (λ (o : Option ℕ). newer o (last_index opening story)) is) low

  block_high : (kind : EventKind) → ((index : ℕ) → decided_index kind ≡ Some index → most < index) → kept_block most kind ≡ None
  block_high (Decide id index reply batch) high = ap (λ (t : Bool). cond t (block_of_reply reply) None) (lt-leb index most (high index refl))
  block_high kind high = refl

  -- an event that leads past the index stands behind the front
  pub front_stays : (front : List Event) → IsFrontOf opening most story front → most < last_index opening (story ++ event ∷ [])
      → IsFrontOf opening most (story ++ event ∷ []) front
  front_stays front is over = record {
    behind = is.behind ++ event ∷ [];
    parts = ap (λ (l : List Event). l ++ event ∷ []) is.parts ∙ append_assoc front is.behind (event ∷ []);
    namespace = kept_next ∙ step_high most story (kept_up_to opening most story) event.kind (over_next over) ∙ is.namespace;
    granted =
        blocks_next (kept_block most)
        ∙ ap (λ (o : Option Block). all_told (kept_block most) story ++ cons_option o []) (block_high event.kind (over_next over))
        ∙ append-nil (all_told (kept_block most) story) ∙ is.granted;
    within = is.within;
    longest = λ start rest same le. ⊎_elim
        (λ all. absurd (let past = subst (λ (l : List Event). last_index opening l ≤ most) all le in omega (arith, past, over)))
        (λ part. is.longest start part.0 part.1 le)
        (ends start rest story event same);
    above = λ other index there decides. ⊎_elim
        (λ old. is.above other index old decides)
        (λ new. ⊎_elim
        (λ same. over_next over index (ap (λ (e : Event). decided_index e.kind) same ∙ decides))
        (λ none. absurd (in_none other none))
        (first_or_later event other [] new))
        (Contains-append_cases is.behind (event ∷ []) other there);
  }

  -- where one doesn't, all of the story was front, and is
  pub front_grows : (front : List Event) → IsLegal opening (story ++ event ∷ []) → IsFrontOf opening most story front
      → last_index opening (story ++ event ∷ []) ≤ most → (front ≡ story) × IsFrontOf opening most (story ++ event ∷ []) (story ++ event ∷ [])
  front_grows front legal is low = (
    all,
    record {
      behind = [];
      parts = sym (append-nil (story ++ event ∷ []));
      namespace =
          kept_next ∙ step_low most story (kept_up_to opening most story) event.kind (low_next low)
          ∙ ap (λ (n : Namespace). namespace_step (λ index. true) story n event.kind) (is.namespace ∙ ap (namespace_of opening) all)
          ∙ sym (namespace_next opening story event);
      granted =
          blocks_next (kept_block most)
          ∙ ap (λ (l : List Block). l ++ cons_option (kept_block most event.kind) []) (is.granted ∙ ap (all_told granted_block) all)
          ∙ ap (λ (o : Option Block). all_told granted_block story ++ cons_option o []) (sym (block_low most event.kind (low_next low)))
          ∙ sym (blocks_next granted_block);
      within = λ le. low;
      longest = λ start rest same le. (rest, same);
      above = λ other index there decides. absurd (in_none other there);
    },
  )
    where
      before_low : last_index opening story ≤ most
      before_low =
          let rises = indexes_rise opening most (event ∷ []) story (legal_behind opening [] story (event ∷ []) legal) in
          omega (arith, rises, low)

      all : front ≡ story
      all =
          let further = is.longest story [] (sym (append-nil story)) before_low in
          let none = none_longer story (further.0 ++ is.behind)
          (sym (append_assoc story further.0 is.behind) ∙ ap (λ (l : List Event). l ++ is.behind) (sym further.1) ∙ sym is.parts) in
          further.1 ∙ ap (λ (l : List Event). story ++ l) (no_first further.0 is.behind none) ∙ append-nil story
