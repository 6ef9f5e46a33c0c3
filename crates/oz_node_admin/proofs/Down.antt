-- What is known of a datanode that has halted.
use Rattle.std.proofs.Common.{◌≡◌, ◌≢◌, ℕ, ◌+◌, Bool, true, false, ◌&&◌, List, [], Option, None, Some, is_none, refl, sym, ap, ◌∙◌, append-nil, below_more}
use Rattle.std.specs.Prelude.{is_some, Result, Ok, Err, OnOk}
use Rattle.oz_buffer.specs.Buffer.{AllFollow, Follows}
use Rattle.oz_core.specs.declared.event.Event.{Event}
use Rattle.oz_core.specs.declared.event.Node.{Node}
use Rattle.oz_core.specs.declared.event.Node.TheVariants.{Datanode}
use Rattle.oz_core.specs.declared.opening.Opening.{Opening}
use Rattle.oz_core.specs.Contents.{OpeningBytes}
use Rattle.oz_core.specs.Manager.{halt_of}
use Rattle.oz_core.specs.Nodes.{is_running, stopped_or_started}
use Rattle.oz_core.specs.Scm.{is_up}
use Rattle.oz_core.specs.Stories.{last_told}
use Rattle.oz_script.specs.declared.lines.script.Script.{Script}
use Rattle.oz_node_events.specs.NodeSeat.{IsKept, SeatView, events_of}
use Rattle.oz_turn.specs.Told.{BeginsWith}
use Rattle.oz_node_admin.specs.Commands.{HasBeen}
use Rattle.oz_node_admin.specs.Halts.{AreDown, is_left_up}
use Rattle.oz_node_admin.specs.laws.Due.{halt_stays}
use Rattle.oz_node_admin.proofs.Told.{begins_through, has_been_since}

-- ---- a Halt in a story

some_of : (halt : Option ℕ) → halt ≢ None → (count : ℕ) × (halt ≡ Some count)
some_of None some = absurd (some refl)
some_of (Some count) some = (count, refl)

-- a Halt that was seen stands in each story that goes on
pub halt_later : (node : Node) (seen story : List Event) → BeginsWith story seen → halt_of node seen ≢ None → halt_of node story ≢ None
halt_later node seen story begins some =
    let there = some_of (halt_of node seen) some in
    halt_stays node seen story there.0 begins there.1

none_false : (halt : Option ℕ) (line : Bool) → halt ≢ None → (is_none halt && line) ≡ false
none_false None line some = absurd (some refl)
none_false (Some count) line some = refl

-- who halted doesn't run
pub stands_still : (dn : ℕ) (story : List Event) → halt_of (Datanode dn) story ≢ None → is_running dn story ≡ false
stands_still dn story some = none_false (halt_of (Datanode dn) story) (last_told (stopped_or_started dn) true story) some

-- ---- what a look in the story tells

some_left : (halt : Option ℕ) (up : Bool) → (is_some halt && up) ≡ true → halt ≢ None
some_left None up left = absurd cc
some_left (Some count) up left = λ none. absurd cc

down_left : (halt : Option ℕ) (up : Bool) → (is_some halt && up) ≡ false → halt ≢ None → up ≡ false
down_left None up left some = absurd (some refl)
down_left (Some count) up left some = left

pub left_halted : (dn : ℕ) (story : List Event) → is_left_up dn story ≡ true → halt_of (Datanode dn) story ≢ None
left_halted dn story left = some_left (halt_of (Datanode dn) story) (is_up dn story) left

-- one that halted and isn't left up is down already
pub down_already : (Coherent : Type 0) (dn : ℕ) (before story : List Event) → BeginsWith story before → is_left_up dn story ≡ false
    → halt_of (Datanode dn) before ≢ None → HasBeen Coherent dn false before story
down_already Coherent dn before story begins left some =
    let halted = halt_later (Datanode dn) before story begins some in
    record {
      place = story;
      since = begins;
      within = ([], sym (append-nil story));
      held = λ coherent. record {
        stands_still = stands_still dn story halted;
        down = down_left (halt_of (Datanode dn) story) (is_up dn story) left halted;
      };
    }

-- ---- what is known of an answer

pub on_ok : {A E P Q : Type 0} (result : Result A E) → (P → Q) → OnOk result P → OnOk result Q
on_ok (Ok value) from holds = from holds
on_ok (Err error) from holds = holds

-- what was so in a story is so in each that goes on
pub been_later : (Coherent : Type 0) (dn : ℕ) (runs : Bool) (before story more : List Event) → BeginsWith more story → HasBeen Coherent dn runs before story
    → HasBeen Coherent dn runs before more
been_later Coherent dn runs before story more begins been =
    record { place = been.place; since = been.since; within = begins_through more story been.place begins been.within; held = been.held }

module _ (Coherent : Type 0) (opening : Opening) (bytes : OpeningBytes) (script : Script) where
  -- one that halted doesn't run by its own events, once its seat has seen the Halt
  pub halted_by_its_own : (view : SeatView) (dn : ℕ) (before after : List Event)
      → ((story : List Event) (number : ℕ) → AllFollow (Follows Coherent opening bytes script) [] story
      → halt_of (Datanode number) story ≡ halt_of (Datanode number) (events_of number story))
      → IsKept Coherent opening bytes script view → view.dn ≡ dn → after ≡ view.seen → BeginsWith after before → halt_of (Datanode dn) before ≢ None
      → is_running view.dn view.mine ≡ false
  halted_by_its_own view dn before after alone kept number seen begins some =
      let there = halt_later (Datanode dn) before after begins some in
      let own : halt_of (Datanode view.dn) view.seen ≡ halt_of (Datanode view.dn) view.mine =
      alone view.seen view.dn kept.follow ∙ ap (halt_of (Datanode view.dn)) kept.own in
      stands_still view.dn view.mine
      (λ none. there (ap (λ (n : ℕ). halt_of (Datanode n) after) (sym number) ∙ (ap (halt_of (Datanode view.dn)) seen ∙ (own ∙ none))))

  -- the next datanode is down too
  pub next_down : (count : ℕ) (before mid after : List Event) → BeginsWith mid before → BeginsWith after mid → AreDown Coherent count before mid
      → (halt_of (Datanode count) mid ≢ None → HasBeen Coherent count false mid after) → AreDown Coherent (count + 1) before after
  next_down count before mid after first then down here =
      below_more (λ (dn : ℕ). halt_of (Datanode dn) before ≢ None → HasBeen Coherent dn false before after) count
      (λ dn less some. been_later Coherent dn false before mid after then (down dn less some))
      (λ some. has_been_since Coherent opening bytes script count false before mid after first (here (halt_later (Datanode count) before mid first some)))
