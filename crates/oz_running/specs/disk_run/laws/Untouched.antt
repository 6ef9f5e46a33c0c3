-- Laws: disks that weren't touched lost nothing.
use Rattle.std.proofs.Common.{◌≡◌, ℕ, ◌≤◌, List, [], ◌∷◌, length, Option, Some, None, IfSome, IsSomeAnd, refl, sym, subst, arith}
use Rattle.std.specs.List.{AllZip}
use Rattle.oz_datanode.specs.declared.disks.NodeDisks.{NodeDisks}
use Rattle.oz_running.specs.declared.disk_run.disks.Disks.{Disks}
use Rattle.oz_running.specs.disk_run.Refused.{AreAtMostLoaded}
use Rattle.oz_journal.specs.Load.{IsLoadable, IsLeftAlone}
use Rattle.oz_headline.specs.LoadedDisks.{LeavesJournal, LeavesNode, LeavesScm, LeavesSlots}
use Rattle.oz_scm.specs.Scm.{StandsStill}
use Rattle.oz_world.specs.Disk.{Seen}
use Rattle.oz_world.specs.Moments.{Spans}

if_all : (told : Option (List ℕ)) (P : List ℕ → Type 0) → ((bytes : List ℕ) → told ≡ Some bytes → P bytes) → IfSome told P
if_all None P h = tt
if_all (Some bytes) P h = h bytes refl

same_spans : (Keeps : List ℕ → List ℕ → Type 0) (disk : Seen) → Spans Keeps disk.clock disk.clock disk.image disk.image
same_spans Keeps disk = record {
  elapses = record { later = omega arith; kept = λ t left le. (λ h. h, λ h. h) };
  made = λ t later lt le image. absurd (omega (arith, lt, le));
}

journal_as_is : (disk : Seen) → LeavesJournal disk disk
journal_as_is disk = record {
  telling = (λ none. none, λ none. none);
  contents = if_all disk.told (λ bytes. 2 ≤ length bytes → disk.told ≡ Some bytes) (λ bytes is long. is);
  never_falls = omega arith;
  time = (same_spans IsLeftAlone disk).elapses;
  moments = if_all disk.told (λ bytes. IsLoadable bytes (disk.image disk.clock) → Spans IsLeftAlone disk.clock disk.clock disk.image disk.image)
      (λ bytes is loadable. same_spans IsLeftAlone disk);
  loadable = if_all disk.told (λ bytes. IsLoadable bytes (disk.image disk.clock) → IsSomeAnd disk.told (λ left. IsLoadable left (disk.image disk.clock)))
      (λ bytes is loadable. subst (λ (o : Option (List ℕ)). IsSomeAnd o (λ left. IsLoadable left (disk.image disk.clock))) (sym is) loadable);
}

pub scm_as_is : (given : ℕ) (disk : Seen) → LeavesScm given disk disk
scm_as_is given disk = record {
  telling = (λ none. none, λ none. none);
  never_falls = omega arith;
  time = (same_spans (StandsStill given) disk).elapses;
  moments = if_all disk.told (λ bytes. IsLoadable bytes (disk.image disk.clock) → Spans (StandsStill given) disk.clock disk.clock disk.image disk.image)
      (λ bytes is loadable. same_spans (StandsStill given) disk);
}

slots_as_are : (disk : Seen) → LeavesSlots disk disk
slots_as_are disk = record { contents = refl; never_falls = omega arith; moments = same_spans _ disk }

module _ {D : Type 0} (see : D → Seen) where
  pub nodes_as_are : (nodes : List (NodeDisks D)) → AllZip (LeavesNode see) nodes nodes
  nodes_as_are [] = tt
  nodes_as_are (node ∷ nodes) = ((journal_as_is (see node.meta), slots_as_are (see node.slots)), nodes_as_are nodes)

  pub left_as_are : (disks : Disks D) → AreAtMostLoaded see disks disks
  left_as_are disks = record {
    manager = journal_as_is (see disks.manager);
    scm = scm_as_is (length disks.nodes.items) (see disks.scm);
    nodes = nodes_as_are disks.nodes.items;
  }
