-- What is told of a block's content stays so as the story goes on.
use Rattle.std.proofs.Common.{◌≡◌, List, [], ◌∷◌, ◌++◌, ℕ, Option, inl, inr, sym, ap, ◌∙◌, subst, append_assoc, append-nil}
use Rattle.oz_asker.specs.laws.Asks.{legal_of_follow}
use Rattle.oz_buffer.specs.Buffer.{AllFollow, Follows}
use Rattle.oz_buffer.specs.laws.Following.{follow-push}
use Rattle.oz_core.specs.declared.event.Event.{Event}
use Rattle.oz_core.specs.declared.opening.Opening.{Opening}
use Rattle.oz_core.specs.Contents.{HasContent, OpeningBytes}
use Rattle.oz_core.specs.Fits.{FitsFrom}
use Rattle.oz_datanode.specs.Datanode.{State, node_in}
use Rattle.oz_datanode.specs.Pairs.{Content, NodeHolds}
use Rattle.oz_entries.specs.Node.{Node, is_held}
use Rattle.oz_fields.specs.declared.block.Block.{Block}
use Rattle.oz_kept.specs.laws.Contents.{granted_still, unasked_again}
use Rattle.oz_script.specs.declared.lines.script.Script.{Script}
use Rattle.oz_world.specs.Disk.{Images}
use Rattle.oz_node_events.specs.NodeSeat.{HasContents}

-- ---- a datanode that holds what it held

pub contents_move : {D : Type 0} (told : D → Option (List ℕ)) (clock : D → ℕ) (image : D → Images) (faults : D → ℕ) (opening : Opening)
    (bytes : OpeningBytes) (script : Script) (story later : List Event) (old new : State D) → node_in new ≡ node_in old
    → ((contents : Block → Content) → NodeHolds told clock image faults contents old → NodeHolds told clock image faults contents new)
    → ((block : Block) (content : List ℕ) → HasContent opening bytes script story block content
    → HasContent opening bytes script later block content)
    → HasContents told clock image faults opening bytes script story old
    → HasContents told clock image faults opening bytes script later new
contents_move told clock image faults opening bytes script story later old new same holds stays had = record {
  contents = had.contents;
  holds = holds had.contents had.holds;
  intact = λ block is. had.intact block (ap (λ (n : Node). is_held n block) (sym same) ∙ is);
  its = λ block is.
      stays block (had.contents block).bytes (had.its block (ap (λ (n : Node). is_held n block) (sym same) ∙ is));
}

-- ---- the story goes on

module _ (Coherent : Type 0) (opening : Opening) (bytes : OpeningBytes) (script : Script) (coherent : Coherent) where
  abbrev Follow : List Event → Event → Type 0
  Follow = Follows Coherent opening bytes script

  pub fits_from : (before story : List Event) → AllFollow (Follows Coherent opening bytes script) before story
      → FitsFrom opening bytes script before story
  unfolding AllFollow FitsFrom
  fits_from before [] all = tt
  fits_from before (event ∷ story) all = (all.0.fits coherent, fits_from (before ++ event ∷ []) story all.1)

  pub content_push : (front : List Event) (event : Event) → AllFollow (Follows Coherent opening bytes script) [] front
      → Follows Coherent opening bytes script front event → (block : Block) (content : List ℕ)
      → HasContent opening bytes script front block content → HasContent opening bytes script (front ++ event ∷ []) block content
  content_push front event all follows block content (inl had) = inl had
  content_push front event all follows block content (inr of) =
      let legal = legal_of_follow Coherent opening bytes script front coherent all in
      let away = unasked_again opening bytes script front legal (fits_from [] front all) event.seat event.kind
      (follows.enabled coherent) of.id block of.before of.granted in
      inr (record {
        new = of.new;
        id = of.id;
        before = of.before;
        granted = granted_still front event of.id block of.before away of.granted;
        line = of.line;
        its = of.its;
        are = of.are;
      })

  pub content_more : (more front : List Event) → AllFollow (Follows Coherent opening bytes script) [] front
      → AllFollow (Follows Coherent opening bytes script) front more → (block : Block) (content : List ℕ)
      → HasContent opening bytes script front block content → HasContent opening bytes script (front ++ more) block content
  unfolding AllFollow
  content_more [] front all rest block content has =
      subst (λ (l : List Event). HasContent opening bytes script l block content) (sym (append-nil front)) has
  content_more (event ∷ more) front all rest block content has =
      subst (λ (l : List Event). HasContent opening bytes script l block content) (append_assoc front (event ∷ []) more)
      (content_more more (front ++ event ∷ []) (follow-push Follow front event all rest.0) rest.1 block content
      (content_push front event all rest.0 block content has))
