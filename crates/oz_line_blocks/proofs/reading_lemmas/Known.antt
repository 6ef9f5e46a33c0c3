-- What is known of a piece once its members were asked for it.
use Rattle.std.proofs.Common.{◌≡◌, ⊎_elim, ℕ, zero, suc, false, List, [], ◌∷◌, length, get_or, Option, Some, sym, ap, ◌∙◌, subst, arith}
use Rattle.std.proofs.lemmas.List.Elements.{All-cons, All-head, All-nil, All-tail, Contains-append_cases}
use Rattle.std.proofs.lemmas.Option.{none-some, same_Some}
use Rattle.std.specs.Prelude.{All, Contains}
use Rattle.oz_buffer.specs.Buffer.{AllFollow, Follows}
use Rattle.oz_core.specs.declared.event.Event.{Event}
use Rattle.oz_core.specs.declared.event.Node.{Node}
use Rattle.oz_core.specs.declared.opening.Opening.{Opening}
use Rattle.oz_core.specs.Contents.{HasContent, OpeningBytes}
use Rattle.oz_core.specs.Nodes.{doubts, is_intact}
use Rattle.oz_datanode.specs.Datanode.{State}
use Rattle.oz_datanode.specs.Reading.{IsRead}
use Rattle.oz_fields.specs.declared.block.Piece.{Piece}
use Rattle.oz_script.specs.declared.lines.script.Script.{Script}
use Rattle.oz_node_events.specs.NodeSeat.{SeatView, StandsFor}
use Rattle.oz_replicas.specs.Notes.{Goes}
use Rattle.oz_replicas.specs.Stays.{Stays}
use Rattle.oz_replicas.specs.declared.note.Note.{Note}
use Rattle.oz_requests.specs.declared.request.AskId.{AskId}
use Rattle.oz_asker.specs.telling.Still.{AllStandStill, StandsStill}
use Rattle.oz_turn.specs.Told.{BeginsWith}
use Rattle.oz_underway.specs.laws.Going.{begins_itself, begins_through}
use Rattle.oz_world.specs.Disk.{Images}
use Rattle.oz_line_blocks.specs.declared.reading.lack.Lack.{Lack}
use Rattle.oz_line_blocks.specs.declared.reading.lack.Lack.TheVariants as lacking
use Rattle.oz_line_blocks.specs.reading.Lacks.{IsDoubted, doubted_in, stills_in}
use Rattle.oz_line_blocks.specs.reading.Member.{LacksIt}
use Rattle.oz_line_blocks.specs.reading.Read.{GaveAt, MayRead, NobodyHasIt, subject_of}
use Rattle.oz_line_blocks.proofs.reading_lemmas.Doubts.{doubted, has_later}
use Rattle.oz_line_blocks.proofs.reading_lemmas.Three.{as_three}

in_one : {A : Type 0} (x y : A) → Contains (x ∷ []) y → x ≡ y
in_one x y (zero, lt, is) = is
in_one x y (suc k, lt, is) = absurd (omega (arith, lt))

module _ (Coherent : Type 0) (opening : Opening) (bytes : OpeningBytes) (script : Script) (id : AskId) (piece : Piece) where
  -- what may be read may be in each story that goes on
  pub may_later : (dns : List ℕ) (later seen : List Event) → BeginsWith later seen → MayRead Coherent opening bytes script id piece dns seen
      → MayRead Coherent opening bytes script id piece dns later
  may_later dns later seen goes may = record {
    named = λ story begins all. may.named story (begins_through story later seen begins goes) all;
    whole = λ story begins all. may.whole story (begins_through story later seen begins goes) all;
    its_members = λ story begins all. may.its_members story (begins_through story later seen begins goes) all;
  }

  -- a member that lacks the block isn't intact in each story that goes on
  module _ (story : List Event) (all : AllFollow (Follows Coherent opening bytes script) [] story) (coherent : Coherent) where
    lacks_still : (lack : Lack) (rest : List Lack) (dn : ℕ) (front : List Event) → LacksIt Coherent opening bytes script id piece dn front lack → BeginsWith story front
        → AllStandStill story (stills_in (lack ∷ rest)) → (is_intact opening story id piece.block dn ≡ false) × AllStandStill story (stills_in rest)
    lacks_still (lacking.Doubted other) rest dn front is begins still =
        (doubted opening id piece.block dn story (has_later (doubts dn piece.block id) story front begins (is.1 coherent)), still)
    lacks_still (lacking.Absent one) rest dn front is begins still =
        (is coherent story begins all (All-head (StandsStill story) one (stills_in rest) still), All-tail (StandsStill story) one (stills_in rest) still)

    none_has : (one two three : Lack) (x y z : ℕ) (first second third : List Event) → BeginsWith story first → BeginsWith story second → BeginsWith story third
        → LacksIt Coherent opening bytes script id piece x first one → LacksIt Coherent opening bytes script id piece y second two → LacksIt Coherent opening bytes script id piece z third three
        → AllStandStill story (stills_in (one ∷ two ∷ three ∷ [])) → All (λ dn. is_intact opening story id piece.block dn ≡ false) (x ∷ y ∷ z ∷ [])
    none_has one two three x y z first second third from_first from_second from_third of_first of_second of_third still =
        let Has : ℕ → Type 0 = λ dn. is_intact opening story id piece.block dn ≡ false in
        let a = lacks_still one (two ∷ three ∷ []) x first of_first from_first still in
        let b = lacks_still two (three ∷ []) y second of_second from_second a.1 in
        let c = lacks_still three [] z third of_third from_third b.1 in
        All-cons Has x (y ∷ z ∷ []) a.0 (All-cons Has y (z ∷ []) b.0 (All-cons Has z [] c.0 (All-nil Has)))

  -- a member of which that is said is doubted
  told_then : (lack : Lack) (dn other : ℕ) (front story : List Event) → LacksIt Coherent opening bytes script id piece dn front lack → Coherent → lack ≡ lacking.Doubted other → BeginsWith story front
      → IsDoubted story id piece.block other
  told_then (lacking.Doubted it) dn other front story is coherent same begins =
      subst (λ (n : ℕ). IsDoubted story id piece.block n) (sym is.0 ∙ same_Some it other (ap doubted_in same)) (has_later (doubts dn piece.block id) story front begins (is.1 coherent))
  told_then (lacking.Absent one) dn other front story is coherent same begins = absurd (none-some other (ap doubted_in same))

  either : (lack : Lack) (rest : List Lack) (it : Lack) (Is : Type 0) → (lack ≡ it → Is) → (Contains rest it → Is) → Contains (lack ∷ rest) it → Is
  either lack rest it Is here there among =
      ⊎_elim (λ one. here (in_one lack it one)) there (Contains-append_cases (lack ∷ []) rest it among)

  pub doubted_among : (one two three : Lack) (x y z : ℕ) (first second third : List Event) → BeginsWith second first → BeginsWith third second
      → LacksIt Coherent opening bytes script id piece x first one → LacksIt Coherent opening bytes script id piece y second two → LacksIt Coherent opening bytes script id piece z third three
      → Coherent → (dn : ℕ) → Contains (one ∷ two ∷ three ∷ []) (lacking.Doubted dn) → IsDoubted third id piece.block dn
  doubted_among one two three x y z first second third to_second to_third of_first of_second of_third coherent dn =
      let it = lacking.Doubted dn in
      let Is : Type 0 = IsDoubted third id piece.block dn in
      either one (two ∷ three ∷ []) it Is (λ same. told_then one x dn first third of_first coherent same (begins_through third second first to_third to_second))
      (either two (three ∷ []) it Is (λ same. told_then two y dn second third of_second coherent same to_third)
      (either three [] it Is (λ same. told_then three z dn third third of_third coherent same (begins_itself third)) (λ none. absurd (omega (arith, none.1)))))

  -- so it is where these are the members, in their order
  pub nobody_at : (dns : List ℕ) (one two three : Lack) (first second third seen : List Event) → length dns ≡ 3
      → BeginsWith second first → BeginsWith third second → BeginsWith third seen → LacksIt Coherent opening bytes script id piece (get_or dns 0 0) first one
      → LacksIt Coherent opening bytes script id piece (get_or dns 1 0) second two → LacksIt Coherent opening bytes script id piece (get_or dns 2 0) third three
      → Coherent → MayRead Coherent opening bytes script id piece dns seen → NobodyHasIt Coherent opening bytes script id piece (one ∷ two ∷ three ∷ []) third
  nobody_at dns one two three first second third seen count to_second to_third to_end of_first of_second of_third coherent may story begins all still =
      let from_second = begins_through story third second begins to_third in
      let from_first = begins_through story second first from_second to_second in
      subst (All (λ dn. is_intact opening story id piece.block dn ≡ false)) (sym (may.its_members story (begins_through story third seen begins to_end) all ∙ as_three dns count))
      (none_has story all coherent one two three (get_or dns 0 0) (get_or dns 1 0) (get_or dns 2 0) first second third from_first from_second begins of_first of_second of_third still)

-- what a member gave is the content
module _ {D : Type 0} (told : D → Option (List ℕ)) (clock : D → ℕ) (image : D → Images) (faults : D → ℕ) (Coherent : Type 0) (opening : Opening) (bytes : OpeningBytes) (script : Script)
    (loaded : Node → ℕ) (id : AskId) (piece : Piece) (dns : List ℕ) (dn : ℕ) (given : List ℕ) (seen later : List Event)
    (gave : GaveAt told clock image faults Coherent opening bytes script loaded id piece dns dn (Some given) seen later) where
  pub as_long : length given ≡ piece.length
  as_long = gave.given_so.1.whole

  pub content : ((view after : SeatView) (old new : State D) → StandsFor told clock image faults Coherent opening bytes script loaded view old → Stays told clock image faults old new
      → IsRead told faults piece.block given old new → StandsFor told clock image faults Coherent opening bytes script loaded after new
      → HasContent opening bytes script after.seen piece.block given) → HasContent opening bytes script later piece.block given
  content law =
      let stays = subst (λ (l : List Note). Goes told clock image faults (subject_of piece dns) l gave.old gave.new) gave.given_so.0 gave.goes in
      subst (λ (l : List Event). HasContent opening bytes script l piece.block given) gave.left.1.1
      (law gave.kept.0 gave.left.0 gave.old gave.new gave.kept.1 stays gave.given_so.1.read gave.left.1.0)
