use Rattle.oz_headline.specs.Keeps.{KeepsRows}
use Rattle.oz_running.specs.disk_run.Disks.{counts_loaded}
use Rattle.oz_running.specs.disk_run.Shown.{ShowStore, bodies_shown, opening_shown, rows_shown}
use Rattle.oz_running.specs.disk_run.Told.{other_nodes}
use Rattle.oz_headline.specs.store_opening.Openings.{opening_bytes}
use Rattle.oz_world.specs.Disk.{seen}
use Rattle.oz_running.proofs.disk_run.loaded.run_loaded.Given as goal

-- what the parts, the bytes and the other nodes show is opened
abbrev pub ghosts-run_told-O-Opened : goal.ghosts-run_told-O-Opened
ghosts-run_told-O-Opened g a =
    let see = (λ (d : g.row.D.Denot). seen (g.D.Disk.told d) (g.D.Disk.clock d) (g.D.Disk.image d) (g.D.Disk.faults d)) in
    record {
      opening = opening_shown a.unseated a.scm.made a.nodes.items;
      bodies = bodies_shown (g.D.Disk.told a.flusher.disk);
      bytes = opening_bytes see a.nodes.items;
      faults = counts_loaded see (g.D.Disk.faults a.flusher.disk) (other_nodes a.scm a.nodes.items);
      script = a.script.now;
      coherent = ShowStore see a.unseated a.scm.made a.nodes.items;
    }

-- and loaded
abbrev pub ghosts-run_told-L-Loaded : goal.ghosts-run_told-L-Loaded
ghosts-run_told-L-Loaded g a =
    let see = (λ (d : g.row.D.Denot). seen (g.D.Disk.told d) (g.D.Disk.clock d) (g.D.Disk.image d) (g.D.Disk.faults d)) in
    let made = a.scm.made in
    let nodes = a.nodes.items in
    record {
      rows = rows_shown a.unseated.parts;
      last_index = a.unseated.last_index;
      coherent = ShowStore see a.unseated made nodes;
      keeps = KeepsRows (ShowStore see a.unseated made nodes) (opening_shown a.unseated made nodes) (rows_shown a.unseated.parts);
    }

-- the disk as it is handed in
abbrev pub ghosts-run_told-M-Mounted : goal.ghosts-run_told-M-Mounted
ghosts-run_told-M-Mounted g a = record {
  disk = seen (g.D.Disk.told a.flusher.disk) (g.D.Disk.clock a.flusher.disk) (g.D.Disk.image a.flusher.disk) (g.D.Disk.faults a.flusher.disk);
}
