-- Where the fields stand, as code finds them.
use Rattle.std.specs.Prelude.{◌≡◌, ◌+◌, ◌<◌, ◌≤◌}
use Rattle.spec.specs.Header.{Layout, field_at}
use Rattle.header.specs.declared.Moved.{Moved}

-- a layout with the fields at their places that both versions have at one place
pub record Fixed (o : Layout) : Type 0 where
  pub version : o.version ≡ field_at 140 2
  pub lword : o.lword ≡ field_at 142 2
  pub ljapa : o.ljapa ≡ field_at 144 2
  pub block_size : o.block_size ≡ field_at 146 2
  pub index_block : o.index_block ≡ field_at 148 2
  pub header_size : o.header_size ≡ field_at 150 2
  pub empty_block : o.empty_block ≡ field_at 154 2
  pub nword : o.nword ≡ field_at 160 4
  pub dicorder : o.dicorder ≡ field_at 164 1
  pub dictype : o.dictype ≡ field_at 165 1
  pub attrlen : o.attrlen ≡ field_at 166 1
  pub update_count : o.update_count ≡ field_at 208 4

-- a layout with the moved fields at these places
pub record Placed (o : Layout) (m : Moved) : Type 0 where
  pub os : o.os ≡ field_at m.os 1
  pub index_blkbit : o.index_blkbit ≡ field_at m.index_blkbit 1
  pub extheader : o.extheader ≡ field_at m.extheader 4
  pub empty_block2 : o.empty_block2 ≡ field_at m.empty_block2 4
  pub nindex2 : o.nindex2 ≡ field_at m.nindex2 4
  pub nblock2 : o.nblock2 ≡ field_at m.nblock2 4

-- places inside the header
abbrev pub InHeader : Moved → Type 0
InHeader m =
    (m.os < 256) × (m.index_blkbit < 256) × (m.extheader + 4 ≤ 256) × (m.empty_block2 + 4 ≤ 256) × (m.nindex2 + 4 ≤ 256) × (m.nblock2 + 4 ≤ 256)
