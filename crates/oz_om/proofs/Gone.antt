-- What a Purge may take of a stripe's rows is logged.
use Rattle.std.proofs.Common.{◌≡◌, ◌⊎◌, ⊎_elim, ℕ, suc, true, List, [], ◌∷◌, ◌++◌, take, drop, Some, Contains, arith, refl, sym, ap, ◌∙◌, subst}
use Rattle.std.proofs.lemmas.Bool.{or_left}
use Rattle.std.proofs.lemmas.List.{take-append-drop}
use Rattle.std.proofs.lemmas.List.Elements.{All-contains, Contains-append_left, filter_map-append}
use Rattle.std.proofs.lemmas.List.Folds.{list_any-append}
use Rattle.std.specs.List.{list_any}
use Rattle.std.specs.Prelude.{All}
use Rattle.oz_core.specs.declared.event.Event.{Event}
use Rattle.oz_core.specs.declared.event.EventKind.TheVariants.{Ask, PurgeAsk}
use Rattle.oz_core.specs.declared.opening.Opening.{Opening}
use Rattle.oz_core.specs.Asks.{pending}
use Rattle.oz_core.specs.Contents.{OpeningBytes}
use Rattle.oz_core.specs.Law.{AskIsEnabled, IsLegal, MayGo, PurgesLogged}
use Rattle.oz_core.specs.Scm.{is_in_logs, is_logged, logged, names_block}
use Rattle.oz_core.specs.Seats.{stripe_seat}
use Rattle.oz_core.specs.Stories.{all_told, mine}
use Rattle.oz_decision.specs.Meets.{IsInOneOf}
use Rattle.oz_decision.specs.Meets.{MayGo as MayGoOf}
use Rattle.oz_fields.specs.declared.block.Block.{Block}
use Rattle.oz_kept.specs.laws.Deleted.{enabled_at, found_at}
use Rattle.oz_names.specs.Names.{stripe_of}
use Rattle.oz_owned.specs.Own.{IsOwn}
use Rattle.oz_owned.specs.Stood.{StandAt}
use Rattle.oz_owned.specs.laws.Found.{among}
use Rattle.oz_owned.specs.laws.Homes.{listed}
use Rattle.oz_owned.specs.laws.Purged.{may_go_logged}
use Rattle.oz_requests.specs.declared.request.AskId.{AskId}
use Rattle.oz_requests.specs.declared.request.PurgeRow.{PurgeRow}
use Rattle.oz_requests.specs.declared.request.Request.{Request}
use Rattle.oz_requests.specs.declared.request.Request.TheVariants.{Purge}
use Rattle.oz_requests.specs.Names.{volume_in}
use Rattle.oz_rows.specs.declared.key.RowKey.TheVariants as keys
use Rattle.oz_rows.specs.declared.row.Row.{Row}
use Rattle.oz_rows.specs.declared.row.Row.TheVariants as rows
use Rattle.oz_rows.specs.Rows.{ValueFits}
use Rattle.oz_rows.specs.RowMaps.{Rows, is_block}
use Rattle.oz_sound.specs.Sound.{StandsIn, blocks_of}
use Rattle.oz_store.specs.Store.{IsStore}
use Rattle.oz_store.specs.striped.laws.Asked.{pending_was_asked}
use Rattle.oz_om.specs.Keeps.{AreAsked}
use Rattle.oz_om.proofs.Asked.{there_asked}

-- ---- what was logged when the Purge was asked is so later

logged_later : (story : List Event) (place : ℕ) (block : Block) → is_in_logs (all_told logged (take place story)) block ≡ true
    → is_in_logs (all_told logged story) block ≡ true
logged_later story place block is =
    ap (λ (l : List Event). is_in_logs (all_told logged l) block) (sym (take-append-drop place story))
    ∙ (ap (λ (l : List _). is_in_logs l block) (filter_map-append (λ (event : Event). logged event.kind) (take place story) (drop place story))
    ∙ (list_any-append (names_block block) (all_told logged (take place story)) (all_told logged (drop place story))
    ∙ or_left (is_in_logs (all_told logged (take place story)) block) (is_in_logs (all_told logged (drop place story)) block) is))

there_later : (story : List Event) (place : ℕ) (event : Event) → Contains (take place story) event → Contains story event
there_later story place event there = subst (λ (l : List Event). Contains l event) (take-append-drop place story)
    (Contains-append_left (take place story) (drop place story) event there)

pub go_later : (story : List Event) (place stripe local : ℕ) → MayGo (take place story) stripe local → MayGo story stripe local
go_later story place stripe local go = record {
  blocks = go.blocks;
  purged = there_later story place (record { seat = stripe_seat stripe; kind = PurgeAsk go.blocks }) go.purged;
  block = go.block;
  among = go.among;
  its_local = go.its_local;
  logged = λ k d within. logged_later story place _ (go.logged k d within);
}

pub purges_logged : (opening : Opening) (story : List Event) → IsLegal opening story → (id : AskId) (volume : List ℕ) (named : List PurgeRow)
    → pending id story ≡ Some (Purge volume named) → (row : PurgeRow) → Contains named row → MayGo story (stripe_of volume) row.local
purges_logged opening story legal id volume named pends row there =
    let was = pending_was_asked id (Purge volume named) story pends in
    let event : Event = record { seat = was.0; kind = Ask id (Purge volume named) } in
    let place = was.1.0 in
    let asked : AskIsEnabled opening (take place story) was.0 id (Purge volume named) =
    enabled_at opening story legal place event (found_at story event was.1) in
    go_later story place (stripe_of volume) row.local
    (All-contains (λ (row : PurgeRow). MayGo (take place story) (stripe_of volume) row.local) named row asked.logged there)

-- ---- so are the blocks of the rows that it names

module _ (opening : Opening) (bytes : OpeningBytes) (loaded : Rows) (store : IsStore loaded opening bytes) (stripe : ℕ) (story given : List Event)
    (legal : IsLegal opening story) (own : mine (stripe_seat stripe) story ≡ given) (all : Rows) (at : StandAt opening loaded stripe story all)
    (asked : AreAsked loaded stripe given story all) where
  row_logged : (volume bucket key : List ℕ) (owner local : ℕ) (row : Row) → all (keys.Deleted volume bucket owner key local) ≡ Some row
      → ValueFits (keys.Deleted volume bucket owner key local) row → MayGo story stripe local → (block : Block)
      → list_any (is_block block) (blocks_of row) ≡ true → is_logged opening story block ≡ true
  row_logged volume bucket key owner local (rows.Deleted []) there fits go block has = absurd fits.1
  row_logged volume bucket key owner local (rows.Deleted (first ∷ others)) there fits go block has =
      let place = keys.Deleted volume bucket owner key local in
      let of_row = first ∷ others in
      let beside : Contains of_row first = (0, omega arith, refl) in
      let stands : StandsIn all first place = record { row = rows.Deleted of_row; there = there; has = among first of_row beside } in
      let purged = there_asked stripe story given own go.blocks go.purged in
      may_go_logged opening bytes loaded store story legal stripe local go (asked.own go.blocks purged) first
      (at.homes_old first (record { key = place; home = tt; here = stands })) fits.1 of_row
      (λ is other has_other. asked.whole go.blocks purged volume bucket key owner local of_row first other there beside is has_other)
      block (listed block of_row has)
  row_logged volume bucket key owner local row there fits go block has = absurd fits

  in_one : (volume : List ℕ) (some : List PurgeRow) → ((row : PurgeRow) → Contains some row → MayGo story stripe row.local) → (block : Block)
      → IsInOneOf all volume some block → is_logged opening story block ≡ true
  in_one volume [] go block is = absurd is
  in_one volume (row ∷ some) go block is = ⊎_elim
      (λ (stands : StandsIn all block (keys.Deleted volume row.bucket row.owner row.key row.local)).
      row_logged volume row.bucket row.key row.owner row.local stands.row stands.there
      (at.stand.fit (keys.Deleted volume row.bucket row.owner row.key row.local) stands.row stands.there).1
      (go row (0, omega arith, refl)) block stands.has)
      (λ rest. in_one volume some (λ other there. go other (suc there.0, omega (arith, there.1), there.2)) block rest)
      is

  pub gone_logged : (id : AskId) (request : Request) → pending id story ≡ Some request → stripe_of (volume_in request) ≡ stripe → (block : Block)
      → MayGoOf all request block → is_logged opening story block ≡ true
  gone_logged id (Purge volume named) pends its block may = in_one volume named
      (λ row there. subst (λ (n : ℕ). MayGo story n row.local) its (purges_logged opening story legal id volume named pends row there)) block may
  gone_logged id request pends its block may = absurd may
