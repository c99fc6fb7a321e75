-- The definition of a scenario (profile): a head gives the world, and each act is allowed after the
-- acts before it.
use Rattle.std.specs.Prelude.{◌≡◌, ℕ, ◌+◌, ◌*◌, ◌%◌, ◌≤◌, ◌==◌, ◌&&◌, ◌||◌, not, nat_lt, nat_le, if◌then◌else◌, Bool, true, false, List, length, take, slice_index, slice_index_or, slice_get, Some}
use Rattle.line_format.specs.Forms.{Fit, FitBytes}
use Rattle.section_map.specs.Geometry.{Shape, IsShape, word_count}
use Rattle.split_ring.specs.declared.sizes.TheConstants.{FRAME_OVERHEAD, SHORTEST_FRAME}
use Rattle.split_ring.specs.Layout.{Sizes, IsQueue}
use Rattle.pci_space.specs.declared.wiring.Wiring.{Wiring}
use Rattle.pci_space.specs.declared.wiring.Wiring.TheVariants.{Msix, Intx}
use Rattle.pci_space.specs.Wiring.{IsWiring}
use Rattle.scenario_text.specs.declared.acts.Act.{Act}
use Rattle.scenario_text.specs.declared.forms.Form.{Form}
use Rattle.scenario_text.specs.declared.forms.Form.TheVariants.{Tick, Offer, Poll, Stop, Auto, Storm, Turn, Reset, Poke, Peek, Set, Ring, CfgRead, CfgWrite, MmioRead, MmioWrite, MsixRead, MsixWrite, Lose, Again}
use Rattle.scenario_text.specs.declared.limits.TheConstants.{MOST_ACTS}
use Rattle.scenario_text.specs.Table.{pieces_of}
use Rattle.scenario_text.specs.Acts.{turns_of, peer_of, has_auto, has_storm, has_call}
use Rattle.scenario_text.specs.ActRows.{row_of_act}

-- The value of a scenario.
pub record World : Type 0 where
  pub version : ℕ
  pub geometry : Shape
  pub queue : Sizes
  pub wiring : Wiring
  pub honest : List Bool
  pub acts : List Act

-- ---- the order of acts

-- Whether the form is out of order for peer p after these acts. An automatic peer queues no tick,
-- poll or stop. `auto` comes at most once and before any call line, and `storm` at most once.
abbrev pub is_too_late : List Act → Form → ℕ → Bool
is_too_late acts Tick p = has_auto acts p
is_too_late acts Poll p = has_auto acts p
is_too_late acts Stop p = has_auto acts p
is_too_late acts Auto p = has_auto acts p || has_call acts p
is_too_late acts Storm p = has_storm acts p
is_too_late acts _ p = false

-- ---- the ranges that depend on other values

-- The offset of an aligned field of 1, 2 or 4 bytes.
abbrev pub is_aligned : ℕ → ℕ → Bool
is_aligned offset width = width == 1 || (width == 2 && offset % 2 == 0) || (width == 4 && offset % 4 == 0)

-- A word is in the region, and an offset is a multiple of the width.
abbrev pub is_in_range : World → Form → List ℕ → Bool
is_in_range w Poke ns = nat_lt (slice_index ns 1) (word_count w.geometry)
is_in_range w Peek ns = nat_lt (slice_index ns 1) (word_count w.geometry)
is_in_range w CfgRead ns = is_aligned (slice_index ns 1) (slice_index ns 2)
is_in_range w CfgWrite ns = is_aligned (slice_index ns 1) (slice_index ns 2)
is_in_range w MmioRead ns = slice_index ns 1 % 4 == 0
is_in_range w MmioWrite ns = slice_index ns 1 % 4 == 0
is_in_range w MsixRead ns = slice_index ns 1 % 4 == 0
is_in_range w MsixWrite ns = slice_index ns 1 % 4 == 0
is_in_range w _ ns = true

-- ---- kinds of peers

abbrev pub is_peer : World → ℕ → Bool
is_peer w p = nat_lt p w.geometry.peers

-- An honest link peer: peer 0 or 1.
abbrev pub is_link : World → ℕ → Bool
is_link w p = nat_lt p 2 && slice_index_or w.honest p false

-- The vector of the doorbells of offers and polls: 1 if MSI-X has at least two vectors, else 0
-- (profile).
abbrev pub traffic_vector : Wiring → ℕ
traffic_vector (Msix vectors) = if nat_le 2 vectors then 1 else 0
traffic_vector Intx = 0

abbrev pub is_hostile : World → ℕ → Bool
is_hostile w p = is_peer w p && not (slice_index_or w.honest p false)

-- Whether the scenario has the act's peer, and it is of the kind that the form requires. Calls are
-- for honest link peers, and direct accesses to the region or State are for hostile ones.
abbrev pub is_its_peer : World → Form → List ℕ → Bool
is_its_peer w Tick ns = is_link w (slice_index ns 0)
is_its_peer w Offer ns = is_link w (slice_index ns 0)
is_its_peer w Poll ns = is_link w (slice_index ns 0)
is_its_peer w Stop ns = is_link w (slice_index ns 0)
is_its_peer w Auto ns = is_link w (slice_index ns 0)
is_its_peer w Storm ns = is_hostile w (slice_index ns 0)
is_its_peer w Turn ns = is_peer w (slice_index ns 0)
is_its_peer w Reset ns = is_peer w (slice_index ns 0)
is_its_peer w Poke ns = is_hostile w (slice_index ns 0)
is_its_peer w Peek ns = is_hostile w (slice_index ns 0)
is_its_peer w Set ns = is_hostile w (slice_index ns 0)
is_its_peer w Ring ns = is_peer w (slice_index ns 0)
is_its_peer w CfgRead ns = is_peer w (slice_index ns 0)
is_its_peer w CfgWrite ns = is_peer w (slice_index ns 0)
is_its_peer w MmioRead ns = is_peer w (slice_index ns 0)
is_its_peer w MmioWrite ns = if slice_index ns 1 == 16 then is_hostile w (slice_index ns 0) else is_peer w (slice_index ns 0)
is_its_peer w MsixRead ns = is_peer w (slice_index ns 0)
is_its_peer w MsixWrite ns = is_peer w (slice_index ns 0)
is_its_peer w Lose ns = is_peer w (slice_index ns 0)
is_its_peer w Again ns = is_peer w (slice_index ns 0)
is_its_peer w _ ns = true

-- ---- frames

-- An offered frame has 14 to MTU + 18 bytes.
abbrev pub is_frame_size : World → Form → ℕ → Bool
is_frame_size w Offer size = nat_le SHORTEST_FRAME size && nat_le size (w.queue.mtu + FRAME_OVERHEAD)
is_frame_size w _ size = true

-- ---- a scenario

-- The act is allowed in this world after these acts.
pub record IsAllowed (w : World) (before : List Act) (act : Act) : Type 0 where
  pub values : Fit (pieces_of (row_of_act act).form) (row_of_act act).numbers
  pub bytes : FitBytes (pieces_of (row_of_act act).form) (row_of_act act).frame
  pub order : is_too_late before (row_of_act act).form (peer_of act) ≡ false
  pub range : is_in_range w (row_of_act act).form (row_of_act act).numbers ≡ true
  pub peer : is_its_peer w (row_of_act act).form (row_of_act act).numbers ≡ true
  pub frame : is_frame_size w (row_of_act act).form (length (row_of_act act).frame) ≡ true

-- Each act is allowed after the ones before it.
abbrev pub AreAllowed : World → Type 0
AreAllowed w = (k : ℕ) (act : Act) → slice_get w.acts k ≡ Some act → IsAllowed w (take k w.acts) act

-- A scenario. Its version is that of its link, and its sizes have a region and a queue. Each peer
-- has a flag. Each act is allowed at its position, and all acts together count for at most
-- `MOST_ACTS`.
pub record IsWorld (w : World) : Type 0 where
  pub version : w.version ≡ w.queue.version
  pub geometry : IsShape w.geometry
  pub few : w.geometry.peers ≤ 8
  pub queue : IsQueue w.queue
  pub out : w.queue.out ≡ 4 * w.geometry.out
  pub wiring : IsWiring w.wiring
  pub flags : length w.honest ≡ w.geometry.peers
  pub allowed : AreAllowed w
  pub turns : turns_of w.acts ≤ MOST_ACTS
