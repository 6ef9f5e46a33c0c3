use Rattle.std.proofs.Common.{sym, ◌∙◌}
use Rattle.oz_cache.specs.Cache.{newest}
use Rattle.oz_om.proofs.decider_lemmas.Choice.{on_buckets}
use Rattle.oz_om.proofs.decider_lemmas.Made.{of_buckets, of_keys, of_change, of_commit}
use Rattle.oz_om.proofs.decider.deciding.decide_alone.Goals as goal

pub decide-requires : goal.decide-requires
decide-requires c = on_buckets c.args.request.now (sym c.who_decides.ensures ∙ c.in-Buckets.is)

pub returns-in-Buckets : goal.returns-in-Buckets
returns-in-Buckets c =
    let it = c.decide.ensures in
    of_buckets (newest c.args.cached.now) c.args.request.now c.decide.result (sym c.who_decides.ensures ∙ c.in-Buckets.is) it.meets it.but_renames it.safe it.exact it.operations it.recorded it.size

pub returns-in-Reading : goal.returns-in-Reading
returns-in-Reading c =
    let it = c.decide-in-Reading.ensures in
    of_keys (newest c.args.cached.now) c.args.request.now c.decide-in-Reading.result (sym c.who_decides.ensures ∙ c.in-Reading.is) it.meets it.but_renames it.safe it.exact it.operations it.recorded it.size

pub returns-in-Changing : goal.returns-in-Changing
returns-in-Changing c =
    let it = c.decide_change.ensures in
    of_change (newest c.args.cached.now) c.args.request.now c.decide_change.result (sym c.who_decides.ensures ∙ c.in-Changing.is) it.meets it.but_renames it.safe it.exact it.operations it.recorded it.size

pub returns-in-Committing : goal.returns-in-Committing
returns-in-Committing c =
    let it = c.decide_commit.ensures in
    of_commit (newest c.args.cached.now) c.args.request.now c.decide_commit.result (sym c.who_decides.ensures ∙ c.in-Committing.is) it.meets it.but_renames it.safe it.exact it.operations it.recorded it.size
