-- What was told of notes is told in each story that goes on.
use Rattle.std.proofs.Common.{◌≡◌, inr, ℕ, List, [], length, Option, None, Some, refl, subst, append-nil}
use Rattle.oz_core.specs.declared.event.Event.{Event}
use Rattle.oz_core.specs.declared.event.Node.{Node}
use Rattle.oz_core.specs.declared.opening.Opening.{Opening}
use Rattle.oz_core.specs.Contents.{OpeningBytes}
use Rattle.oz_datanode.specs.Datanode.{State}
use Rattle.oz_datanode.specs.declared.unverified.Unverified.{Unverified}
use Rattle.oz_fields.specs.declared.block.Piece.{Piece}
use Rattle.oz_script.specs.declared.lines.script.Script.{Script}
use Rattle.oz_node_events.specs.NodeSeat.{SeatView, StandsFor}
use Rattle.oz_node_events.specs.laws.Told.{told_joined}
use Rattle.oz_replicas.specs.Reading.{Opens}
use Rattle.oz_replicas.specs.declared.note.Note.{Note}
use Rattle.oz_requests.specs.declared.request.AskId.{AskId}
use Rattle.oz_turn.specs.Told.{BeginsWith}
use Rattle.oz_world.specs.Disk.{Images}
use Rattle.oz_line_blocks.specs.declared.reading.member.AtMember.{AtMember}
use Rattle.oz_line_blocks.specs.declared.reading.member.AtMember.TheVariants.{Gave, Nothing}
use Rattle.oz_line_blocks.specs.reading.Member.{CameAt, ComesAt, IsCopiedAt, IsGivenAt}
use Rattle.oz_line_blocks.specs.declared.reading.lack.Doubted.{Doubted}
use Rattle.oz_line_blocks.specs.declared.reading.lack.Lack.{Lack}
use Rattle.oz_line_blocks.specs.reading.Lacks.{IsAsked, has_notes, lack_of}
use Rattle.oz_line_blocks.specs.reading.Read.{GaveAt, GaveNone, TellsFor}

pub nothing_told : (id : AskId) (seen later : List Event) → BeginsWith later seen → TellsFor id seen [] later
nothing_told id seen later begins = record { since = begins.0; goes_on = begins.1; told = tt }

pub tells_more : (id : AskId) (said : List Note) (seen mid later : List Event) → TellsFor id seen said mid → BeginsWith later mid → TellsFor id seen said later
tells_more id said seen mid later told begins =
    subst (λ (l : List Note). TellsFor id seen l later) (append-nil said)
    (told_joined id id 0 0 said [] seen mid later refl refl told (nothing_told id mid later begins))

-- it is told in a story that began earlier
pub tells_from : (id : AskId) (said : List Note) (seen mid later : List Event) → TellsFor id mid said later → BeginsWith mid seen → TellsFor id seen said later
tells_from id said seen mid later told begins = told_joined id id 0 0 [] said seen mid later refl refl (nothing_told id seen mid begins) told

-- what was copied gives what it gives once it is verified
pub given_of : {D : Type 0} (told : D → Option (List ℕ)) (clock : D → ℕ) (image : D → Images) (faults : D → ℕ) (id : AskId) (piece : Piece) (dns : List ℕ) (old new : State D)
    (chunks : Option (List Unverified)) (given : Option (List ℕ)) (seen mid : List Event) → IsCopiedAt told clock image faults id piece dns old new chunks seen mid → Opens piece.length chunks given
    → IsGivenAt told clock image faults id piece dns old new given seen mid
given_of told clock image faults id piece dns old new chunks given seen mid is opens = record {
  said = is.said;
  told_so = is.told_so;
  goes = is.goes;
  given_so = is.opens given opens;
}

pub said_given : {D : Type 0} (told : D → Option (List ℕ)) (clock : D → ℕ) (image : D → Images) (faults : D → ℕ) (id : AskId) (piece : Piece) (dns : List ℕ) (old new : State D)
    (chunks : Option (List Unverified)) (given : Option (List ℕ)) (seen mid : List Event) (is : IsCopiedAt told clock image faults id piece dns old new chunks seen mid) (opens : Opens piece.length chunks given)
    → (given_of told clock image faults id piece dns old new chunks given seen mid is opens).said ≡ is.said
unfolding given_of
said_given told clock image faults id piece dns old new chunks given seen mid is opens = refl

-- so it is of what a datanode gave
pub given_later : {D : Type 0} (told : D → Option (List ℕ)) (clock : D → ℕ) (image : D → Images) (faults : D → ℕ) (id : AskId) (piece : Piece) (dns : List ℕ) (old new : State D)
    (given : Option (List ℕ)) (seen mid later : List Event) → IsGivenAt told clock image faults id piece dns old new given seen mid → BeginsWith later mid
    → IsGivenAt told clock image faults id piece dns old new given seen later
given_later told clock image faults id piece dns old new given seen mid later is begins = record {
  said = is.said;
  told_so = tells_more id is.said seen mid later is.told_so begins;
  goes = is.goes;
  given_so = is.given_so;
}

pub said_later : {D : Type 0} (told : D → Option (List ℕ)) (clock : D → ℕ) (image : D → Images) (faults : D → ℕ) (id : AskId) (piece : Piece) (dns : List ℕ) (old new : State D)
    (given : Option (List ℕ)) (seen mid later : List Event) (is : IsGivenAt told clock image faults id piece dns old new given seen mid) (begins : BeginsWith later mid)
    → (given_later told clock image faults id piece dns old new given seen mid later is begins).said ≡ is.said
unfolding given_later
said_later told clock image faults id piece dns old new given seen mid later is begins = refl

-- under the lock of a member
pub gave_at : {D : Type 0} (told : D → Option (List ℕ)) (clock : D → ℕ) (image : D → Images) (faults : D → ℕ) (Coherent : Type 0) (opening : Opening) (bytes : OpeningBytes) (script : Script)
    (loaded : Node → ℕ) (id : AskId) (piece : Piece) (dns : List ℕ) (dn : ℕ) (given : Option (List ℕ)) (seen later : List Event) (old new : State D) (before after : SeatView)
    → old.id ≡ dn → StandsFor told clock image faults Coherent opening bytes script loaded before old → StandsFor told clock image faults Coherent opening bytes script loaded after new
    → after.seen ≡ later → IsGivenAt told clock image faults id piece dns old new given seen later
    → GaveAt told clock image faults Coherent opening bytes script loaded id piece dns dn given seen later
gave_at told clock image faults Coherent opening bytes script loaded id piece dns dn given seen later old new before after member stood stands shown is = record {
  old = old;
  new = new;
  member = member;
  kept = (before, stood);
  left = (after, (stands, shown));
  said = is.said;
  told_so = is.told_so;
  goes = is.goes;
  given_so = is.given_so;
}

-- which gave none for this reason
pub none_at : {D : Type 0} (told : D → Option (List ℕ)) (clock : D → ℕ) (image : D → Images) (faults : D → ℕ) (Coherent : Type 0) (opening : Opening) (bytes : OpeningBytes) (script : Script)
    (loaded : Node → ℕ) (id : AskId) (piece : Piece) (dns : List ℕ) (dn : ℕ) (lack : Lack) (seen later : List Event) (old new : State D) (before after : SeatView)
    → old.id ≡ dn → StandsFor told clock image faults Coherent opening bytes script loaded before old → StandsFor told clock image faults Coherent opening bytes script loaded after new
    → after.seen ≡ later → (is : IsGivenAt told clock image faults id piece dns old new None seen later) → lack ≡ lack_of dn piece.block (has_notes is.said) (length later)
    → GaveNone told clock image faults Coherent opening bytes script loaded id piece dns dn lack seen later
unfolding gave_at
none_at told clock image faults Coherent opening bytes script loaded id piece dns dn lack seen later old new before after member stood stands shown is why =
    (gave_at told clock image faults Coherent opening bytes script loaded id piece dns dn None seen later old new before after member stood stands shown is, why)

-- a member that gave, or gave none, did so in a story that began earlier
pub gave_from : {D : Type 0} (told : D → Option (List ℕ)) (clock : D → ℕ) (image : D → Images) (faults : D → ℕ) (Coherent : Type 0) (opening : Opening) (bytes : OpeningBytes) (script : Script)
    (loaded : Node → ℕ) (id : AskId) (piece : Piece) (dns : List ℕ) (dn : ℕ) (given : Option (List ℕ)) (seen mid later : List Event)
    → GaveAt told clock image faults Coherent opening bytes script loaded id piece dns dn given mid later → BeginsWith mid seen
    → GaveAt told clock image faults Coherent opening bytes script loaded id piece dns dn given seen later
gave_from told clock image faults Coherent opening bytes script loaded id piece dns dn given seen mid later gave begins = record {
  old = gave.old;
  new = gave.new;
  member = gave.member;
  kept = gave.kept;
  left = gave.left;
  said = gave.said;
  told_so = tells_from id gave.said seen mid later gave.told_so begins;
  goes = gave.goes;
  given_so = gave.given_so;
}

pub came_from : {D : Type 0} (told : D → Option (List ℕ)) (clock : D → ℕ) (image : D → Images) (faults : D → ℕ) (Coherent : Type 0) (opening : Opening) (bytes : OpeningBytes) (script : Script)
    (loaded : Node → ℕ) (id : AskId) (piece : Piece) (dns : List ℕ) (dn : ℕ) (seen mid later : List Event) (one : AtMember)
    → CameAt told clock image faults Coherent opening bytes script loaded id piece dns dn mid later one → BeginsWith mid seen
    → CameAt told clock image faults Coherent opening bytes script loaded id piece dns dn seen later one
unfolding gave_from
came_from told clock image faults Coherent opening bytes script loaded id piece dns dn seen mid later (Gave read) came begins =
    gave_from told clock image faults Coherent opening bytes script loaded id piece dns dn (Some read.items) seen mid later came begins
came_from told clock image faults Coherent opening bytes script loaded id piece dns dn seen mid later (Nothing lack) came begins =
    ((gave_from told clock image faults Coherent opening bytes script loaded id piece dns dn None seen mid later came.0.0 begins, came.0.1), came.1)

-- a member that was asked came so
pub comes_from : {D : Type 0} (told : D → Option (List ℕ)) (clock : D → ℕ) (image : D → Images) (faults : D → ℕ) (Coherent : Type 0) (opening : Opening) (bytes : OpeningBytes) (script : Script)
    (loaded : Node → ℕ) (id : AskId) (piece : Piece) (dns : List ℕ) (doubted : Doubted) (dn : ℕ) (seen mid later : List Event) (one : AtMember)
    → IsAsked doubted dn → CameAt told clock image faults Coherent opening bytes script loaded id piece dns dn mid later one → BeginsWith mid seen
    → ComesAt told clock image faults Coherent opening bytes script loaded id piece dns doubted dn seen later one
comes_from told clock image faults Coherent opening bytes script loaded id piece dns doubted dn seen mid later (Gave read) asked came begins =
    (asked, came_from told clock image faults Coherent opening bytes script loaded id piece dns dn seen mid later (Gave read) came begins)
comes_from told clock image faults Coherent opening bytes script loaded id piece dns doubted dn seen mid later (Nothing lack) asked came begins =
    let from = came_from told clock image faults Coherent opening bytes script loaded id piece dns dn seen mid later (Nothing lack) came begins in
    (inr (asked, from.0), from.1)
