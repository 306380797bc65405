-- Sources, sinks and clocks in memory.
use Rattle.std.specs.Prelude.{ℕ, ◌+◌, ◌-◌, ◌^◌, ◌==◌, ◌&&◌, Bool, List, Option, Some, None, min, nat_lt, replicate, if◌then◌else◌}
use Rattle.std.specs.List.{list_any}

-- The call of a number that was chosen, counted from 1, fails. Calls are counted up to the last number of 64 bits.
abbrev pub fails_after : ℕ → List ℕ → Bool
fails_after calls fails = nat_lt calls (2 ^ 64 - 1) && list_any (λ number. number == calls + 1) fails

-- a count after one more
abbrev pub counted : ℕ → ℕ
counted count = min (count + 1) (2 ^ 64 - 1)

-- A source in memory: the bytes that are left, which calls fail, and how many calls and faults there were.
pub record MemorySourceState : Type 0 where
  pub left : List ℕ
  pub fails : List ℕ
  pub calls : ℕ
  pub faults : ℕ

abbrev pub source_left : MemorySourceState → Option (List ℕ)
source_left source = Some source.left

abbrev pub source_faults : MemorySourceState → ℕ
source_faults source = source.faults

-- A sink in memory: the bytes that it got, which calls fail, how many calls and faults there were, and whether it
-- ever found no memory.
pub record MemorySinkState : Type 0 where
  pub written : List ℕ
  pub fails : List ℕ
  pub calls : ℕ
  pub faults : ℕ
  pub starved : Bool

abbrev pub sink_written : MemorySinkState → Option (List ℕ)
sink_written sink = Some sink.written

abbrev pub sink_faults : MemorySinkState → ℕ
sink_faults sink = sink.faults

-- A clock that stands still, and how many readings it gave. It tells them as long as their count is below the last
-- number of 64 bits.
pub record FixedClockState : Type 0 where
  pub moment : ℕ
  pub count : ℕ

abbrev pub clock_readings : FixedClockState → Option (List ℕ)
clock_readings clock = if nat_lt clock.count (2 ^ 64 - 1) then Some (replicate clock.count clock.moment) else None
