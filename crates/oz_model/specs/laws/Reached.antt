-- What a walk through a namespace meets is what the namespace reaches.
use Rattle.std.proofs.Common.{◌⊎◌, ⊎_elim, inl, inr, List, ◌++◌, ap, ◌∙◌}
use Rattle.std.specs.Option.{option_and_then}
use Rattle.std.specs.Ordering.{nat_cmp}
use Rattle.std.specs.Cmp.{nat_cmp_total}
use Rattle.std.specs.Cmp.Lexicographic.{slice_cmp, nat_list_cmp_total}
use Rattle.std.specs.FinMap.{IsAntisymmetric, get, values, slice_cmp-IsAntisymmetric, nat_cmp-IsAntisymmetric}
use Rattle.std.specs.List.{Contains}
use Rattle.std.proofs.lemmas.List.Elements.{Contains-append_left, Contains-append_right, Contains-append_cases}
use Rattle.oz_fields.specs.declared.block.Block.{Block}
use Rattle.oz_fields.specs.declared.block.Piece.{Piece}
use Rattle.oz_namespace.specs.declared.namespace.Bucket.{Bucket}
use Rattle.oz_namespace.specs.declared.namespace.Namespace.{Namespace}
use Rattle.oz_namespace.specs.declared.namespace.Session.{Session}
use Rattle.oz_namespace.specs.declared.namespace.Snapshot.{Snapshot}
use Rattle.oz_namespace.specs.Namespace.{ByName}
use Rattle.oz_model.specs.Gathered.{in_keys, in_sessions, in_snapshots, in_bucket, in_buckets, in_namespace}
use Rattle.oz_model.specs.Reach.{blocks_of, InKeys, InSessions, InSnapshots, IsReached}
use Rattle.oz_model.specs.laws.Members.{joins, comes, both, value_there, holder}

names_apart : IsAntisymmetric (slice_cmp nat_cmp)
names_apart = slice_cmp-IsAntisymmetric nat_cmp-IsAntisymmetric

module _ (block : Block) where
  keys_have : (keys : ByName (List Piece)) → InKeys keys block → Contains (in_keys keys) block
  keys_have keys it = joins blocks_of (values keys) it.pieces block (value_there nat_list_cmp_total names_apart keys it.key it.pieces it.is_there) it.has

  have_keys : (keys : ByName (List Piece)) → Contains (in_keys keys) block → InKeys keys block
  have_keys keys has =
      let origin = comes blocks_of (values keys) block has in
      let there = holder nat_list_cmp_total names_apart keys origin.item origin.there in
      record { key = there.key; pieces = origin.item; is_there = there.is_there; has = origin.has }

  sessions_have : (bucket : Bucket) → InSessions bucket block → Contains (in_sessions (values bucket.sessions)) block
  sessions_have bucket it =
      joins (λ (session : Session). session.blocks) (values bucket.sessions) it.session block
      (value_there nat_cmp_total nat_cmp-IsAntisymmetric bucket.sessions it.number it.session it.is_there) it.has

  have_sessions : (bucket : Bucket) → Contains (in_sessions (values bucket.sessions)) block → InSessions bucket block
  have_sessions bucket has =
      let origin = comes (λ (session : Session). session.blocks) (values bucket.sessions) block has in
      let there = holder nat_cmp_total nat_cmp-IsAntisymmetric bucket.sessions origin.item origin.there in
      record { number = there.key; session = origin.item; is_there = there.is_there; has = origin.has }

  snapshots_have : (bucket : Bucket) → InSnapshots bucket block → Contains (in_snapshots bucket.snapshots) block
  snapshots_have bucket it =
      joins (λ (snapshot : Snapshot). in_keys snapshot.keys) bucket.snapshots it.snapshot block it.is_there (keys_have it.snapshot.keys it.in_keys)

  have_snapshots : (bucket : Bucket) → Contains (in_snapshots bucket.snapshots) block → InSnapshots bucket block
  have_snapshots bucket has =
      let origin = comes (λ (snapshot : Snapshot). in_keys snapshot.keys) bucket.snapshots block has in
      record { snapshot = origin.item; is_there = origin.there; in_keys = have_keys origin.item.keys origin.has }

  bucket_has : (bucket : Bucket) → InKeys bucket.keys block ⊎ (InSessions bucket block ⊎ InSnapshots bucket block) → Contains (in_bucket bucket) block
  bucket_has bucket has =
      let keys = in_keys bucket.keys in
      let sessions = in_sessions (values bucket.sessions) in
      let snapshots = in_snapshots bucket.snapshots in
      ⊎_elim
      (λ it. Contains-append_left keys (sessions ++ snapshots) block (keys_have bucket.keys it))
      (λ rest. Contains-append_right keys (sessions ++ snapshots) block (⊎_elim
      (λ it. Contains-append_left sessions snapshots block (sessions_have bucket it))
      (λ it. Contains-append_right sessions snapshots block (snapshots_have bucket it)) rest)) has

  has_bucket : (bucket : Bucket) → Contains (in_bucket bucket) block → InKeys bucket.keys block ⊎ (InSessions bucket block ⊎ InSnapshots bucket block)
  has_bucket bucket has =
      let sessions = in_sessions (values bucket.sessions) in
      let snapshots = in_snapshots bucket.snapshots in
      ⊎_elim
      (λ it. inl (have_keys bucket.keys it))
      (λ rest. inr (⊎_elim (λ it. inl (have_sessions bucket it)) (λ it. inr (have_snapshots bucket it)) (Contains-append_cases sessions snapshots block rest)))
      (Contains-append_cases (in_keys bucket.keys) (sessions ++ snapshots) block has)

  pub met : (namespace : Namespace) → IsReached namespace block → Contains (in_namespace namespace) block
  met namespace it =
      let steps = both (λ (buckets : ByName Bucket). get buckets it.name) (get namespace.volumes it.volume) it.bucket it.is_there in
      joins in_buckets (values namespace.volumes) steps.between block
      (value_there nat_list_cmp_total names_apart namespace.volumes it.volume steps.between steps.first)
      (joins in_bucket (values steps.between) it.bucket block (value_there nat_list_cmp_total names_apart steps.between it.name it.bucket steps.then)
      (bucket_has it.bucket it.has))

  pub reached : (namespace : Namespace) → Contains (in_namespace namespace) block → IsReached namespace block
  reached namespace has =
      let of_volume = comes in_buckets (values namespace.volumes) block has in
      let of_bucket = comes in_bucket (values of_volume.item) block of_volume.has in
      let volume = holder nat_list_cmp_total names_apart namespace.volumes of_volume.item of_volume.there in
      let name = holder nat_list_cmp_total names_apart of_volume.item of_bucket.item of_bucket.there in
      record {
        volume = volume.key;
        name = name.key;
        bucket = of_bucket.item;
        is_there = ap (option_and_then (λ (buckets : ByName Bucket). get buckets name.key)) volume.is_there ∙ name.is_there;
        has = has_bucket of_bucket.item of_bucket.has;
      }
