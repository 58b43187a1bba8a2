-- Wiring sheets: what is read from one.
use Rattle.std.specs.Prelude.{ℕ, ◌+◌, ◌*◌, ◌/◌, List, map, length, Result}
use Rattle.fault.specs.declared.faults.Fault.{Fault}
use Rattle.wiring.specs.Lists.{range, unless}
use Rattle.wiring.specs.Topologies.{Topology}
use Rattle.wiring.specs.Soundness.{sound_answer}
use Rattle.sheet.specs.Lines.{byte, line, body}
use Rattle.sheet.specs.Contents.{sheet_fault, wiring_letters}

-- link j of a body: its two bytes
abbrev pub link_in : List ℕ → ℕ → ℕ × ℕ
link_in s j = (byte s (2 * j), byte s (2 * j + 1))

-- two bytes a link
abbrev pub links_in : List ℕ → List (ℕ × ℕ)
links_in s = map (link_in s) (range 0 (length s / 2))

abbrev pub wired : ℕ → ℕ → List ℕ → Topology
wired n k s = record { nodes = n; layers = k; links = links_in s }

abbrev pub wiring_in : List ℕ → Topology
wiring_in s = wired (byte (body s (line s 1)) 0) (byte (body s (line s 2)) 0) (body s (line s 0))

abbrev pub read_wiring : List ℕ → Result Topology Fault
read_wiring s = unless (sheet_fault wiring_letters s) (sound_answer (wiring_in s))
