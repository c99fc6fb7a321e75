-- The words that name a command of `ivshm`, and the number of bytes that each command reads.
use Rattle.std.specs.Prelude.{ℕ, ◌<◌, ◌≤◌, ◌-◌, ◌&&◌, nat_le, if◌then◌else◌, List, [], ◌∷◌, codes, Option, Some, None, option_and_then, option_map}
use Rattle.std.specs.Str.{bytes_eq}
use Rattle.line_format.specs.Numbers.{number_of}
use Rattle.section_dump.specs.declared.images.TheConstants.{LONGEST_IMAGE}
use Rattle.program_edge.specs.declared.words.Command.{Command}
use Rattle.program_edge.specs.declared.words.Command.TheVariants.{Sim, Run, Replay, Renew, Dump, Config, Load, Capture, Feed, Ports, Bridge}
use Rattle.program_edge.specs.declared.limits.TheConstants.{MOST_FRAMES, RECORD_LIMIT, TEXT_LIMIT}

-- `config` with a peer: one digit, 0 to 7 (profile).
abbrev pub config_of : List ℕ → Option Command
config_of (digit ∷ []) = if nat_le 48 digit && nat_le digit 55 then Some (Config (digit - 48)) else None
config_of _ = None

-- `load` with a count: a number from 1 to 80,000, in decimal without leading zeros (profile).
abbrev pub load_of : List ℕ → Option Command
load_of word = option_and_then (λ count. if nat_le 1 count && nat_le count MOST_FRAMES then Some (Load count) else None) (number_of word)

-- The peer of `capture` and of `feed`: one digit, 0 or 1 (profile).
abbrev pub link_peer_of : List ℕ → Option ℕ
link_peer_of (digit ∷ []) = if nat_le 48 digit && nat_le digit 49 then Some (digit - 48) else None
link_peer_of _ = None

-- The command that the words are, if they are one.
abbrev pub form_of : List (List ℕ) → Option Command
form_of (first ∷ []) =
    if bytes_eq first (codes "sim") then Some Sim
    else if bytes_eq first (codes "run") then Some Run
    else if bytes_eq first (codes "replay") then Some Replay
    else if bytes_eq first (codes "renew") then Some Renew
    else if bytes_eq first (codes "dump") then Some Dump
    else if bytes_eq first (codes "ports") then Some Ports
    else if bytes_eq first (codes "bridge") then Some Bridge
    else None
form_of (first ∷ second ∷ []) =
    if bytes_eq first (codes "config") then config_of second
    else if bytes_eq first (codes "load") then load_of second
    else if bytes_eq first (codes "capture") then option_map Capture (link_peer_of second)
    else if bytes_eq first (codes "feed") then option_map Feed (link_peer_of second)
    else None
form_of _ = None

-- The command's number is in its range.
abbrev pub IsInRange : Command → Type 0
IsInRange (Load count) = (1 ≤ count) × (count ≤ MOST_FRAMES)
IsInRange (Capture peer) = peer < 2
IsInRange (Feed peer) = peer < 2
IsInRange _ = Unit {0}

-- The most bytes that a command reads; None reads nothing (profile).
abbrev pub limit_of : Command → Option ℕ
limit_of Sim = Some TEXT_LIMIT
limit_of Run = Some TEXT_LIMIT
limit_of Replay = Some RECORD_LIMIT
limit_of Renew = Some RECORD_LIMIT
limit_of Dump = Some LONGEST_IMAGE
limit_of (Config peer) = Some TEXT_LIMIT
limit_of (Load count) = None
limit_of (Capture peer) = Some RECORD_LIMIT
limit_of (Feed peer) = Some TEXT_LIMIT
limit_of Ports = Some TEXT_LIMIT
limit_of Bridge = Some TEXT_LIMIT
