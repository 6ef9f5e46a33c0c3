use Rattle.std.proofs.Common.{sym, ◌∙◌}
use Rattle.oz_reclaim.proofs.NotMade.{full_refuses, no_number, none_refuses, some_number, spent_refuses, taken_refuses}
use Rattle.oz_reclaim.proofs.making.not_made.Goals as goal

pub returns-then-is_some-clause-code : goal.returns-then-is_some-clause-code
returns-then-is_some-clause-code g c =
    let all = g.M.RowMap.rows c.args.rows.now in
    let v = c.args.volume.now in
    let b = c.args.bucket.now in
    let name = c.args.name.now in
    let one = some_number all v b name c.in_ok-found.found c.in_ok-found.ensures (sym c.is_some.ensures ∙ c.if-is_some.true) in
    taken_refuses all v b name c.requires.named (λ namespace stand. sym c.in_default.is ∙ c.in_ok-code.ensures.code namespace stand) one.0 one.1

pub returns-then-count-ge-MOST_SNAPSHOTS-clause-code : goal.returns-then-count-ge-MOST_SNAPSHOTS-clause-code
returns-then-count-ge-MOST_SNAPSHOTS-clause-code g c =
    let all = g.M.RowMap.rows c.args.rows.now in
    let v = c.args.volume.now in
    let b = c.args.bucket.now in
    let name = c.args.name.now in
    let free = no_number all v b name c.in_ok-found.found c.in_ok-found.ensures (sym c.is_some.ensures ∙ c.if-is_some.false) in
    full_refuses all v b name c.requires.named (λ namespace stand. sym c.in_default.is ∙ c.in_ok-code.ensures.code namespace stand) free c.in_ok-count.count c.in_ok-count.ensures.shows c.if-count-ge-MOST_SNAPSHOTS.true

pub returns-then-drawn-ge-MOST_NUMBERS-clause-code : goal.returns-then-drawn-ge-MOST_NUMBERS-clause-code
returns-then-drawn-ge-MOST_NUMBERS-clause-code g c =
    let all = g.M.RowMap.rows c.args.rows.now in
    let v = c.args.volume.now in
    let b = c.args.bucket.now in
    let name = c.args.name.now in
    let free = no_number all v b name c.in_ok-found.found c.in_ok-found.ensures (sym c.is_some.ensures ∙ c.if-is_some.false) in
    spent_refuses all v b name c.requires.named (λ namespace stand. sym c.in_default.is ∙ c.in_ok-code.ensures.code namespace stand) free c.in_ok-count.count c.in_ok-count.ensures.shows c.if-count-ge-MOST_SNAPSHOTS.false c.args.drawn c.requires.drawn c.if-drawn-ge-MOST_NUMBERS.true

pub returns-clause-code : goal.returns-clause-code
returns-clause-code g c =
    let all = g.M.RowMap.rows c.args.rows.now in
    let v = c.args.volume.now in
    let b = c.args.bucket.now in
    let name = c.args.name.now in
    let free = no_number all v b name c.in_ok-found.found c.in_ok-found.ensures (sym c.is_some.ensures ∙ c.if-is_some.false) in
    none_refuses all v b name c.requires.named (λ namespace stand. sym c.in_default.is ∙ c.in_ok-code.ensures.code namespace stand) free c.in_ok-count.count c.in_ok-count.ensures.shows c.if-count-ge-MOST_SNAPSHOTS.false c.args.drawn c.requires.drawn c.if-drawn-ge-MOST_NUMBERS.false

pub returns-clause-free : goal.returns-clause-free
returns-clause-free g c = λ none. no_number (g.M.RowMap.rows c.args.rows.now) c.args.volume.now c.args.bucket.now c.args.name.now c.in_ok-found.found c.in_ok-found.ensures (sym c.is_some.ensures ∙ c.if-is_some.false)
