use Rattle.std.proofs.Common.{◌∙◌, ap, arith}
use Rattle.std.proofs.lemmas.List.{get_or_past}
use Rattle.oz_script.specs.draft.Drafts.{client_place}
use Rattle.oz_script.proofs.placed_lemmas.Afters.{no_number, not_named}
use Rattle.oz_script.proofs.placed.placed.line_named.Goals as goal

pub returns-then-client-len : goal.returns-then-client-len
returns-then-client-len c =
    let none = get_or_past c.args.drafting.now.counts.items c.client_place-client.result 0 (omega (arith, c.args.drafting.now.counts.ok)) in
    not_named c.args.drafting.now.draft c.args.drafting.now.counts.items c.args.drafting.now.opened c.args.name.now c.args.number c.client_place-client.result c.requires
    (c.client_place-client.ensures ∙ ap (client_place c.args.drafting.now.draft.clients) c.bytes.ensures) (omega (arith, none))

pub returns-then-number-lt1 : goal.returns-then-number-lt1
returns-then-number-lt1 c = no_number c.args.drafting.now.draft c.args.name.now c.args.number c.if-number-lt1.true
