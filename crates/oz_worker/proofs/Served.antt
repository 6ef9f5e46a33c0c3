-- What is kept of a client as its lines are served.
use Rattle.std.proofs.Common.{◌≡◌, ◌≢◌, ℕ, ◌+◌, ◌<◌, ◌==◌, Bool, true, false, cond, List, [], map, Option, None, Some, IfSome, Bor, refl, sym, ap, ◌∙◌, subst, arith}
use Rattle.std.specs.Cmp.Lexicographic.{slice_cmp}
use Rattle.std.specs.FinMap.{empty, get, insert, get-empty, get-insert}
use Rattle.std.specs.Ordering.{nat_cmp}
use Rattle.std.specs.Prelude.{slice_get}
use Rattle.std.specs.Option.{option_map}
use Rattle.std.specs.Str.{bytes_eq}
use Rattle.std.proofs.lemmas.Cmp.{nat_list_cmp_total}
use Rattle.std.proofs.lemmas.List.Sums.{count_by-le-length, length-filter}
use Rattle.std.proofs.lemmas.Map.Text.{is_eq-slice_cmp}
use Rattle.std.proofs.lemmas.Option.{IfSome_then, none-some, same_Some, slice_get-map, slice_get_read, slice_get_within}
use Rattle.oz_at_work.specs.AtWork.{HasLeft, IsAtWork, MayBegin, WorkView}
use Rattle.oz_command.specs.declared.command.Command.{Command}
use Rattle.oz_command.specs.declared.command.Command.TheVariants as commands
use Rattle.oz_core.specs.declared.event.Event.{Event}
use Rattle.oz_core.specs.declared.opening.Opening.{Opening}
use Rattle.oz_core.specs.Contents.{OpeningBytes}
use Rattle.oz_core.specs.Lines.{HasStarted}
use Rattle.oz_core.specs.Steps.{is_opened_as, opening_line}
use Rattle.oz_script.specs.declared.lines.script.Line.{Line}
use Rattle.oz_script.specs.declared.lines.script.Script.{Script}
use Rattle.oz_script.specs.lines.Numbered.{IsNumbered}
use Rattle.oz_steps.specs.declared.label.Label.{Label}
use Rattle.oz_at_work.specs.UnderWay.{LabelStays}
use Rattle.oz_worker.specs.declared.client.Client.{Client}
use Rattle.oz_worker.specs.declared.resting.Rest.{Rest}
use Rattle.oz_worker.specs.ClientLines.{lines_of_client}
use Rattle.oz_worker.specs.Labels.{LabelMap, label_for, noted}
use Rattle.oz_worker.specs.Served.{AreNoted, IsNoted, IsServed, next_line}
use Rattle.oz_worker.proofs.Numbered.{next_opening, no_opening, placed}

get_noted : (labels : LabelMap) (opened name : List ℕ) (left : Option Label)
    → get (insert labels opened left) name ≡ cond (bytes_eq name opened) (Some left) (get labels name)
get_noted labels opened name left =
    get-insert nat_list_cmp_total labels opened left name
    ∙ ap (λ (t : Bool). cond t (Some left) (get labels name)) (is_eq-slice_cmp name opened)

module _ (Coherent : Type 0) (opening : Opening) (bytes : OpeningBytes) (script : Script) where
  -- ---- what a label stands for

  -- no label stands before a client's first line
  first_line : (seen : List Event) (client : ℕ) → IsNumbered script → (found : Option Line) → slice_get (lines_of_client script client) 0 ≡ found
      → IfSome found (AreNoted Coherent opening bytes script seen empty)
  first_line seen client numbered None at = tt
  first_line seen client numbered (Some line) at =
      λ name.
      let it = placed client [] script.lines 0 line numbered.in_order at in
      let none = no_opening script line name numbered (omega (arith, it.number)) in
      subst (λ (o : Option Line). IsNoted Coherent opening bytes script seen o (get (empty {R = slice_cmp nat_cmp}) name)) (sym none) (get-empty (slice_cmp nat_cmp) name)

  pub first_noted : (seen : List Event) (client : ℕ) → IsNumbered script
      → IfSome (slice_get (lines_of_client script client) 0) (AreNoted Coherent opening bytes script seen empty)
  first_noted seen client numbered = first_line seen client numbered (slice_get (lines_of_client script client) 0) refl

  picked : (seen : List Event) (line : Line) (left : Option Label) (t : Bool) (before : Option Line) (found : Option (Option Label))
      → HasLeft Coherent opening bytes script seen line left → IsNoted Coherent opening bytes script seen before found
      → IsNoted Coherent opening bytes script seen (cond t (Some line) before) (cond t (Some left) found)
  picked seen line left true before found has was = (left, refl, has)
  picked seen line left false before found has was = was

  -- the labels behind a line that left this are those before the next
  noted_name : (seen : List Event) (line : Line) (labels : LabelMap) (command : Command) (left : Option Label) (name : List ℕ) (before : Option Line)
      → HasLeft Coherent opening bytes script seen line left
      → IsNoted Coherent opening bytes script seen before (get labels name)
      → IsNoted Coherent opening bytes script seen (cond (is_opened_as name command) (Some line) before) (get (noted labels command left) name)
  noted_name seen line labels (commands.KeyOpen opened volume bucket key payload) left name before has was =
      subst (λ (found : Option (Option Label)). IsNoted Coherent opening bytes script seen (cond (bytes_eq name opened) (Some line) before) found)
      (sym (get_noted labels opened name left))
      (picked seen line left (bytes_eq name opened) before (get labels name) has was)
  noted_name seen line labels command left name before has was = was

  noted_behind : (seen : List Event) (client told : ℕ) (line : Line) (labels : LabelMap) (left : Option Label) → IsNumbered script
      → slice_get (lines_of_client script client) told ≡ Some line → HasLeft Coherent opening bytes script seen line left
      → AreNoted Coherent opening bytes script seen labels line
      → (found : Option Line) → slice_get (lines_of_client script client) (told + 1) ≡ found
      → IfSome found (AreNoted Coherent opening bytes script seen (noted labels line.command left))
  noted_behind seen client told line labels left numbered at has was None next_at = tt
  noted_behind seen client told line labels left numbered at has was (Some next) next_at =
      λ name.
      let here = placed client [] script.lines told line numbered.in_order at in
      let there = placed client [] script.lines (told + 1) next numbered.in_order next_at in
      let same = next_opening script line next name here.there.0 numbered
      (slice_get_read script.lines _ here.there.0 line refl here.there.1 (sym here.there.2))
      (there.its ∙ sym here.its) (omega (arith, here.number, there.number)) in
      subst (λ (o : Option Line). IsNoted Coherent opening bytes script seen o (get (noted labels line.command left) name)) (sym same)
      (noted_name seen line labels line.command left name (opening_line script line name) has (was name))

  -- ---- what is seen later

  module _ (later seen : List Event)
      (works : (work : WorkView) → IsAtWork Coherent opening bytes script seen work → IsAtWork Coherent opening bytes script later work)
      (leaves : (line : Line) (left : Option Label) → HasLeft Coherent opening bytes script seen line left → HasLeft Coherent opening bytes script later line left) where
    noted_still : (before : Option Line) (found : Option (Option Label)) → IsNoted Coherent opening bytes script seen before found
        → IsNoted Coherent opening bytes script later before found
    noted_still None found it = it
    noted_still (Some opened) found it = (it.0, it.1, leaves opened it.0 it.2)

    pub served_still : (client : Client) → IsServed Coherent opening bytes script seen client → IsServed Coherent opening bytes script later client
    served_still client it = record {
      lines = it.lines;
      next = it.next;
      works = λ coherent. IfSome_then client.work (it.works coherent) works;
      labels = λ coherent. IfSome_then (next_line script client) (it.labels coherent)
          (λ line were name. noted_still (opening_line script line name) (get client.labels.labels name) (were name));
    }

  -- ---- a line begins, and ends

  opens_as : (seen : List Event) (line : Line) (name : List ℕ) (label : Option Label)
      → ((opened : Line) (left : Option Label) → opening_line script line name ≡ Some opened → HasLeft Coherent opening bytes script seen opened left
      → LabelStays Coherent opening bytes script seen line line.command left)
      → (before : Option Line) (found : Option (Option Label)) → opening_line script line name ≡ before → IsNoted Coherent opening bytes script seen before found
      → found ≡ Some label → LabelStays Coherent opening bytes script seen line line.command label
  opens_as seen line name label commits None found opens it is = absurd (none-some label (sym it ∙ is))
  opens_as seen line name label commits (Some opened) found opens it is =
      subst (λ (l : Option Label). LabelStays Coherent opening bytes script seen line line.command l) (same_Some it.0 label (sym it.1 ∙ is))
      (commits opened it.0 opens it.2)

  pub label_stays : (seen : List Event) (line : Line) (labels : LabelMap) (label : Option Label)
      → ((opened : Line) (name : List ℕ) (left : Option Label) → line.command ≡ commands.KeyCommit name → opening_line script line name ≡ Some opened
      → HasLeft Coherent opening bytes script seen opened left → LabelStays Coherent opening bytes script seen line line.command left)
      → (((name : List ℕ) → line.command ≢ commands.KeyCommit name) → LabelStays Coherent opening bytes script seen line line.command label)
      → AreNoted Coherent opening bytes script seen labels line
      → (command : Command) → line.command ≡ command → label_for labels command ≡ Some label
      → LabelStays Coherent opening bytes script seen line line.command label
  label_stays seen line labels label commits other were (commands.KeyCommit name) does is =
      opens_as seen line name label (λ opened left opens has. commits opened name left does opens has)
      (opening_line script line name) (get labels name) refl (were name) is
  label_stays seen line labels label commits other were command does is = other (λ name e. cc)

  pub ended : (seen : List Event) (client : Client) (line : Line) (labels : LabelMap) (left : Option Label) → IsNumbered script
      → client.work ≡ None → next_line script client ≡ Some line → labels ≡ noted client.labels.labels line.command left
      → IsServed Coherent opening bytes script seen client → (Coherent → HasLeft Coherent opening bytes script seen line left)
      → IsServed Coherent opening bytes script seen (record client { told = client.told + 1; labels = record { labels = labels } })
  ended seen client line labels left numbered none at is it has = record {
    lines = it.lines;
    next = subst (λ (w : Option WorkView). IfSome w (λ work. slice_get (lines_of_client script client.number) (client.told + 1) ≡ Some work.line)) (sym none) tt;
    works = λ coherent. subst (λ (w : Option WorkView). IfSome w (IsAtWork Coherent opening bytes script seen)) (sym none) tt;
    labels = λ coherent. subst (λ (m : LabelMap). IfSome (slice_get (lines_of_client script client.number) (client.told + 1)) (AreNoted Coherent opening bytes script seen m)) (sym is)
        (noted_behind seen client.number client.told line client.labels.labels left numbered at (has coherent)
        (subst (λ (o : Option Line). IfSome o (AreNoted Coherent opening bytes script seen client.labels.labels)) at (it.labels coherent))
        (slice_get (lines_of_client script client.number) (client.told + 1)) refl);
  }

  -- ---- what is worked for

  pub with_work : (seen : List Event) (client : Client) (work : WorkView) → IsServed Coherent opening bytes script seen client
      → next_line script client ≡ Some work.line → (Coherent → IsAtWork Coherent opening bytes script seen work)
      → IsServed Coherent opening bytes script seen (record client { work = Some work })
  with_work seen client work it at works = record {
    lines = it.lines;
    next = at;
    works = works;
    labels = it.labels;
  }

  pub without_work : (seen : List Event) (client : Client) (empty_now : Option WorkView) → empty_now ≡ None → IsServed Coherent opening bytes script seen client
      → IsServed Coherent opening bytes script seen (record client { work = empty_now })
  without_work seen client empty_now is it = record {
    lines = it.lines;
    next = subst (λ (w : Option WorkView). IfSome w (λ work. next_line script client ≡ Some work.line)) (sym is) tt;
    works = λ coherent. subst (λ (w : Option WorkView). IfSome w (IsAtWork Coherent opening bytes script seen)) (sym is) tt;
    labels = it.labels;
  }

  -- how it stood when it was looked at is nothing to that
  pub with_rest : (seen : List Event) (client : Client) (rest : Rest) → IsServed Coherent opening bytes script seen client
      → IsServed Coherent opening bytes script seen (record client { rest = rest })
  with_rest seen client rest it = record {
    lines = it.lines;
    next = it.next;
    works = it.works;
    labels = it.labels;
  }

  pub may_begin : (seen : List Event) (client : Client) (line : Line) (label : Option Label)
      → ((opened : Line) (name : List ℕ) (left : Option Label) → line.command ≡ commands.KeyCommit name → opening_line script line name ≡ Some opened
      → HasLeft Coherent opening bytes script seen opened left → LabelStays Coherent opening bytes script seen line line.command left)
      → (((name : List ℕ) → line.command ≢ commands.KeyCommit name) → LabelStays Coherent opening bytes script seen line line.command label)
      → IsNumbered script → next_line script client ≡ Some line → HasStarted seen line → IsServed Coherent opening bytes script seen client → Coherent
      → label_for client.labels.labels line.command ≡ Some label → MayBegin Coherent opening bytes script seen line label
  may_begin seen client line label commits other numbered at started it coherent is = record {
    begun = record {
      numbered = numbered;
      there = (placed client.number [] script.lines client.told line numbered.in_order at).there;
      started = started;
    };
    labelled = label_stays seen line client.labels.labels label commits other
        (subst (λ (o : Option Line). IfSome o (AreNoted Coherent opening bytes script seen client.labels.labels)) at (it.labels coherent))
        line.command refl is;
  }

pub next_is : (script : Script) (client : Client) (line : Bor Line) → map (λ (l : Bor Line). l.now) client.lines.items ≡ lines_of_client script client.number
    → slice_get client.lines.items client.told ≡ Some line → next_line script client ≡ Some line.now
next_is script client line lines at =
    ap (λ (l : List Line). slice_get l client.told) (sym lines)
    ∙ slice_get-map (λ (l : Bor Line). l.now) client.lines.items client.told
    ∙ ap (option_map (λ (l : Bor Line). l.now)) at

pub told_small : (script : Script) (client told : ℕ) (line : Line) → IsNumbered script → slice_get (lines_of_client script client) told ≡ Some line → told < 4096
told_small script client told line numbered at =
    let within = slice_get_within (lines_of_client script client) told line at in
    let counted = length-filter (λ (l : Line). l.client == client) script.lines in
    let few = count_by-le-length (λ (l : Line). l.client == client) script.lines in
    omega (arith, within, counted, few, numbered.few)
