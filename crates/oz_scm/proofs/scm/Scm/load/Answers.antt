use Rattle.std.proofs.Common.{◌≡◌, Bool, Some, List, Ok, Err, refl, sym, ap, ◌∙◌, subst, length, true}
use Rattle.oz_scm.specs.grants.Build.{Makes}
use Rattle.oz_scm.specs.grants.Log.{IsOrdered}
use Rattle.oz_scm.specs.grants.Made.{Made}
use Rattle.oz_scm.specs.grants.Steps.{made_in}
use Rattle.oz_journal.specs.declared.body.Body.{Body}
use Rattle.oz_journal.specs.Body.{bodies_in}
use Rattle.oz_scm.specs.Scm.{IsFaultIn}
use Rattle.oz_scm.proofs.Firsts.{goes, goes_well, spans_of, keeps_of, tells_after, stable_after, alone_of, alone_spans, counted, named_so}
use Rattle.std.proofs.lemmas.List.{length-replicate}
use Rattle.oz_scm.proofs.Ordered.{loaded_ordered}
use Rattle.oz_scm.proofs.Places.{damaged_journal, damaged_body, other_nodes}
use Rattle.oz_scm.proofs.scm.Scm.load.Goals as goal

pub returns-in-Err-clause-damaged : goal.returns-in-Err-clause-damaged
returns-in-Err-clause-damaged g c offset is = damaged_journal (g.D.Disk.told c.args.disk) offset (c.in-Err.ensures.damaged offset (c.fault_of.ensures.damaged offset is))

pub returns-in-Err-clause-moments : goal.returns-in-Err-clause-moments
returns-in-Err-clause-moments g c = alone_spans c.bytes_left_alone_stand_for_the_same.ensures c.bytes_stand_for_one_thing.ensures.one_reading c.args.nodes (counted c.args.nodes c.requires.least c.requires.most)
    (g.D.Disk.told c.args.disk) (g.D.Disk.clock c.args.disk) (g.D.Disk.clock c.in-Err.disk) (g.D.Disk.image c.args.disk) (g.D.Disk.image c.in-Err.disk) c.in-Err.ensures.moments

pub returns-in-Err-containers_of-clause-damaged : goal.returns-in-Err-containers_of-clause-damaged
returns-in-Err-containers_of-clause-damaged g c offset is = damaged_body (g.D.Disk.told c.args.disk) _ offset c.in-Ok.ensures.bodies (subst (λ (l : List Body). IsFaultIn (bodies_in l) offset) c.deref.ensures.value (c.in-Err-containers_of.ensures.damaged offset is))

pub returns-in-Err-containers_of-clause-moments : goal.returns-in-Err-containers_of-clause-moments
returns-in-Err-containers_of-clause-moments g c = alone_of g.D.Disk.told g.D.Disk.clock g.D.Disk.image g.D.Disk.faults c.args.nodes c.bytes_left_alone_stand_for_the_same.ensures c.bytes_stand_for_one_thing.ensures.one_reading (counted c.args.nodes c.requires.least c.requires.most)
    c.args.disk c.in-Ok.loaded.0.disk c.into_disk.result c.into_disk.ensures c.in-Ok.ensures.moments

pub returns-in-Err-found_or_first-clause-moments : goal.returns-in-Err-found_or_first-clause-moments
returns-in-Err-found_or_first-clause-moments g c =
    let makes = subst (λ (l : List Body). Makes (bodies_in l) (made_in c.in-Ok-containers_of.found)) c.deref.ensures.value c.in-Ok-containers_of.ensures.made in
    let went = goes g.D.Disk.told g.D.Disk.clock g.D.Disk.image g.D.Disk.faults c.args.nodes (made_in c.in-Ok-containers_of.found) c.in-Ok.loaded.0 c.found_or_first.new.journal (Err c.in-Err-found_or_first.fault) c.in-Err-found_or_first.ensures.found c.in-Err-found_or_first.ensures.first c.in-Err-found_or_first.ensures.no_memory in
    rw c.into_disk-in-Err-found_or_first.ensures (spans_of g.D.Disk.told g.D.Disk.clock g.D.Disk.image g.D.Disk.faults c.args.nodes c.bytes_left_alone_stand_for_the_same.ensures c.bytes_stand_for_one_thing.ensures.one_reading (counted c.args.nodes c.requires.least c.requires.most)
    c.args.disk c.in-Ok.loaded.0.disk c.found_or_first.new.journal.disk _ (made_in c.in-Ok-containers_of.found) _ c.in-Ok.ensures.moments (g.met.D.Disk.read_is_image c.args.disk) c.in-Ok.ensures.bodies c.in-Ok.ensures.stands makes went)

pub invariant_of-result : goal.invariant_of-result
invariant_of-result g c =
    let makes = subst (λ (l : List Body). Makes (bodies_in l) (made_in c.in-Ok-containers_of.found)) c.deref.ensures.value c.in-Ok-containers_of.ensures.made in
    let well = goes_well g.D.Disk.told g.D.Disk.clock g.D.Disk.image g.D.Disk.faults c.args.nodes (made_in c.in-Ok-containers_of.found) c.in-Ok.loaded.0 c.found_or_first.new.journal (Ok c.in-Ok-found_or_first.containers) c.in-Ok-found_or_first.ensures.found c.in-Ok-found_or_first.ensures.first c.in-Ok-found_or_first.ensures.no_memory c.in-Ok-found_or_first.containers refl in (
      ap (λ (l : List Bool). length l) c.new.ensures ∙ (length-replicate c.args.nodes true ∙ sym (named_so (made_in c.in-Ok-containers_of.found) c.args.nodes c.in-Ok-found_or_first.containers.made c.in-Ok-containers_of.ensures.agrees c.in-Ok-found_or_first.ensures.made)),
      λ running. keeps_of g.D.Disk.told g.D.Disk.clock g.D.Disk.image g.D.Disk.faults c.args.nodes (counted c.args.nodes c.requires.least c.requires.most) c.args.disk c.in-Ok.loaded.0.disk c.found_or_first.new.journal.disk _ (made_in c.in-Ok-containers_of.found) c.in-Ok-found_or_first.containers.made c.in-Ok-found_or_first.containers
          c.in-Ok.ensures.telling c.in-Ok.ensures.stands makes c.in-Ok-found_or_first.ensures.made well,
    )

pub returns-clause-bodies : goal.returns-clause-bodies
returns-clause-bodies g c =
    let makes = subst (λ (l : List Body). Makes (bodies_in l) (made_in c.in-Ok-containers_of.found)) c.deref.ensures.value c.in-Ok-containers_of.ensures.made in
    let well = goes_well g.D.Disk.told g.D.Disk.clock g.D.Disk.image g.D.Disk.faults c.args.nodes (made_in c.in-Ok-containers_of.found) c.in-Ok.loaded.0 c.found_or_first.new.journal (Ok c.in-Ok-found_or_first.containers) c.in-Ok-found_or_first.ensures.found c.in-Ok-found_or_first.ensures.first c.in-Ok-found_or_first.ensures.no_memory c.in-Ok-found_or_first.containers refl in
    tells_after g.D.Disk.told g.D.Disk.clock g.D.Disk.image g.D.Disk.faults c.args.nodes c.bytes_stand_for_one_thing.ensures.one_reading c.args.disk c.in-Ok.loaded.0.disk c.found_or_first.new.journal.disk _ (made_in c.in-Ok-containers_of.found) c.in-Ok-found_or_first.containers c.in-Ok.ensures.bodies c.in-Ok.ensures.stands makes well

pub returns-clause-ordered : goal.returns-clause-ordered
returns-clause-ordered g c =
    let makes = subst (λ (l : List Body). Makes (bodies_in l) (made_in c.in-Ok-containers_of.found)) c.deref.ensures.value c.in-Ok-containers_of.ensures.made in
    subst IsOrdered (sym c.in-Ok-found_or_first.ensures.made) (loaded_ordered c.args.nodes _ (made_in c.in-Ok-containers_of.found) makes)

pub returns-clause-stable : goal.returns-clause-stable
returns-clause-stable g c =
    let well = goes_well g.D.Disk.told g.D.Disk.clock g.D.Disk.image g.D.Disk.faults c.args.nodes (made_in c.in-Ok-containers_of.found) c.in-Ok.loaded.0 c.found_or_first.new.journal (Ok c.in-Ok-found_or_first.containers) c.in-Ok-found_or_first.ensures.found c.in-Ok-found_or_first.ensures.first c.in-Ok-found_or_first.ensures.no_memory c.in-Ok-found_or_first.containers refl in
    stable_after g.D.Disk.told g.D.Disk.clock g.D.Disk.image g.D.Disk.faults c.args.nodes c.in-Ok.loaded.0.disk c.found_or_first.new.journal.disk (made_in c.in-Ok-containers_of.found) c.in-Ok-found_or_first.containers c.in-Ok.ensures.stable well

pub returns-clause-moments : goal.returns-clause-moments
returns-clause-moments g c =
    let makes = subst (λ (l : List Body). Makes (bodies_in l) (made_in c.in-Ok-containers_of.found)) c.deref.ensures.value c.in-Ok-containers_of.ensures.made in
    let went = goes g.D.Disk.told g.D.Disk.clock g.D.Disk.image g.D.Disk.faults c.args.nodes (made_in c.in-Ok-containers_of.found) c.in-Ok.loaded.0 c.found_or_first.new.journal (Ok c.in-Ok-found_or_first.containers) c.in-Ok-found_or_first.ensures.found c.in-Ok-found_or_first.ensures.first c.in-Ok-found_or_first.ensures.no_memory in
    spans_of g.D.Disk.told g.D.Disk.clock g.D.Disk.image g.D.Disk.faults c.args.nodes c.bytes_left_alone_stand_for_the_same.ensures c.bytes_stand_for_one_thing.ensures.one_reading (counted c.args.nodes c.requires.least c.requires.most)
    c.args.disk c.in-Ok.loaded.0.disk c.found_or_first.new.journal.disk _ (made_in c.in-Ok-containers_of.found) _ c.in-Ok.ensures.moments (g.met.D.Disk.read_is_image c.args.disk) c.in-Ok.ensures.bodies c.in-Ok.ensures.stands makes went

pub returns-in-Err-containers_of-clause-other : goal.returns-in-Err-containers_of-clause-other
returns-in-Err-containers_of-clause-other g c recorded given is =
    let found = c.in-Err-containers_of.ensures.nodes recorded given is in
    let made = subst (λ (l : List Body). (made : Made) × Makes (bodies_in l) (Some made) × (made.nodes ≡ recorded)) c.deref.ensures.value found.2 in
    (found.0, found.1, other_nodes (g.D.Disk.told c.args.disk) _ recorded c.in-Ok.ensures.bodies made)
