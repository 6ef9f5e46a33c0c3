use Rattle.std.proofs.Common.{◌≡◌, ◌<◌, ◌≤◌, false, length, sym, ◌∙◌, arith}
use Rattle.std.specs.Prelude.{nat_lt}
use Rattle.oz_scm_law.proofs.Ups.{node_there, node_past}
use Rattle.oz_scm_law.proofs.pipelines.is_node_up.Goals as goal

pub returns-then-dn-len : goal.returns-then-dn-len
returns-then-dn-len c =
    let there : c.args.dn < length c.args.opening.now.nodes = omega (arith, c.if-dn-len.true, c.len.ensures) in
    c.is_up.ensures ∙ sym (node_there c.args.opening.now c.args.story.now c.args.dn there)

pub returns-else-dn-len : goal.returns-else-dn-len
returns-else-dn-len c =
    let past : length c.args.opening.now.nodes ≤ c.args.dn = omega (arith, c.if-dn-len.false, c.len.ensures) in
    let no : nat_lt c.args.dn c.len.result ≡ false = grind (arith, c.if-dn-len.false) in
    no ∙ sym (node_past c.args.opening.now c.args.story.now c.args.dn past)
