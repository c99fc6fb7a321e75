-- The definition of a schedule of ports (profile): a head gives the region, the size of messages
-- and the kinds of peers; the acts follow.
use Rattle.std.specs.Prelude.{◌≡◌, ℕ, ◌≤◌, ◌&&◌, not, nat_lt, nat_le, Bool, true, false, List, length, slice_index, slice_index_or, All}
use Rattle.line_format.specs.Forms.{Fit, FitBytes}
use Rattle.section_map.specs.Geometry.{Shape, IsShape, word_count}
use Rattle.port_text.specs.declared.limits.TheConstants.{MOST_TURNS}
use Rattle.port_text.specs.declared.acts.Act.{Act}
use Rattle.port_text.specs.declared.forms.Form.{Form}
use Rattle.port_text.specs.declared.forms.Form.TheVariants.{Publish, Sample, Turn, Poke}
use Rattle.port_text.specs.Sizes.{IsMessageSize, port_words}
use Rattle.port_text.specs.Table.{pieces_of}
use Rattle.port_text.specs.Acts.{turns_of}
use Rattle.port_text.specs.ActRows.{row_of_act}

-- The value of a text: the region's sizes in words, the limit of a message in bytes, whether each
-- peer is honest, and the schedule.
pub record World : Type 0 where
  pub geometry : Shape
  pub most : ℕ
  pub honest : List Bool
  pub acts : List Act

-- The peer that is sampled is one of the region's, and a word is in the region.
abbrev pub is_in_range : World → Form → List ℕ → Bool
is_in_range w Sample ns = nat_lt (slice_index ns 1) w.geometry.peers
is_in_range w Poke ns = nat_lt (slice_index ns 1) (word_count w.geometry)
is_in_range w _ ns = true

abbrev pub is_peer : World → ℕ → Bool
is_peer w p = nat_lt p w.geometry.peers

abbrev pub is_honest : World → ℕ → Bool
is_honest w p = is_peer w p && slice_index_or w.honest p false

abbrev pub is_hostile : World → ℕ → Bool
is_hostile w p = is_peer w p && not (slice_index_or w.honest p false)

-- The region has the act's peer, and it is of the act's kind: calls are for honest peers, and pokes
-- for hostile ones.
abbrev pub is_its_peer : World → Form → List ℕ → Bool
is_its_peer w Publish ns = is_honest w (slice_index ns 0)
is_its_peer w Sample ns = is_honest w (slice_index ns 0)
is_its_peer w Turn ns = is_peer w (slice_index ns 0)
is_its_peer w Poke ns = is_hostile w (slice_index ns 0)
is_its_peer w _ ns = true

-- A message has 1 to `w.most` bytes.
abbrev pub is_message_length : World → Form → ℕ → Bool
is_message_length w Publish size = nat_le 1 size && nat_le size w.most
is_message_length w _ size = true

-- The act is allowed in this world.
pub record IsAllowed (w : World) (act : Act) : Type 0 where
  pub values : Fit (pieces_of (row_of_act act).form) (row_of_act act).numbers
  pub bytes : FitBytes (pieces_of (row_of_act act).form) (row_of_act act).frame
  pub range : is_in_range w (row_of_act act).form (row_of_act act).numbers ≡ true
  pub peer : is_its_peer w (row_of_act act).form (row_of_act act).numbers ≡ true
  pub message : is_message_length w (row_of_act act).form (length (row_of_act act).frame) ≡ true

-- A schedule of ports. Its region has a State Table of 4,096 bytes and no common section, and each
-- section has space for a port. Each peer has a flag. Each act is allowed, and all acts together
-- count for at most `MOST_TURNS`.
pub record IsWorld (w : World) : Type 0 where
  pub geometry : IsShape w.geometry
  pub few : w.geometry.peers ≤ 8
  pub table : w.geometry.table ≡ 1024
  pub common : w.geometry.common ≡ 0
  pub size : IsMessageSize w.most
  pub room : port_words w.most ≤ w.geometry.out
  pub flags : length w.honest ≡ w.geometry.peers
  pub allowed : All (IsAllowed w) w.acts
  pub turns : turns_of w.acts ≤ MOST_TURNS
