-- What a run has outside beside its files and links: where it reads, where it writes, and its clock.
use Rattle.std.specs.Prelude.{ℕ, ◌≡◌, ◌⊎◌, List, [], Option}
use Rattle.fault_counts.specs.Rose.{Rose}
use Rattle.port_model.specs.Streams.{Appends}
use Rattle.port_model.specs.Transcript.{Extends}
use Rattle.mail_server.specs.declared.status.Status.{Status}
use Rattle.mail_server.specs.declared.status.Status.TheVariants.{WriteFault}

pub record Outside (S K C : Type 0) : Type 0 where
  pub source : S
  pub sink : K
  pub clock : C

abbrev pub outside : {S K C : Type 0} → S → K → C → Outside S K C
outside source sink clock = record { source = source; sink = sink; clock = clock }

-- what these tell: the bytes that are left, the bytes that were written, the readings of the clock, and how many faults there were
pub record Tells (S K C : Type 0) : Type 0 where
  pub left : S → Option (List ℕ)
  pub read_faults : S → ℕ
  pub written : K → Option (List ℕ)
  pub write_faults : K → ℕ
  pub readings : C → Option (List ℕ)

abbrev pub tells_of : {S K C : Type 0} → (S → Option (List ℕ)) → (S → ℕ) → (K → Option (List ℕ)) → (K → ℕ) → (C → Option (List ℕ)) → Tells S K C
tells_of left read_faults written write_faults readings =
    record { left = left; read_faults = read_faults; written = written; write_faults = write_faults; readings = readings }

-- These bytes were written, and no write failed. Where there are none, the sink was left alone.
pub record WritesAll {K : Type 0} (written : K → Option (List ℕ)) (faults : K → ℕ) (bytes : List ℕ) (old new : K) : Type 0 where
  pub appended : Appends bytes (written old) (written new)
  pub quiet : faults new ≡ faults old
  pub silent : bytes ≡ [] → new ≡ old

-- A front of some bytes was written.
pub record WritesFront (whole : List ℕ) (old new : Option (List ℕ)) : Type 0 where
  pub bytes : List ℕ
  pub appended : Appends bytes old new
  pub front : Extends bytes whole

-- A write of these bytes failed: a front of them was written.
pub record StopsWriting {K : Type 0} (written : K → Option (List ℕ)) (faults : K → ℕ) (bytes : List ℕ) (old new : K) : Type 0 where
  pub front : WritesFront bytes (written old) (written new)
  pub rose : Rose (faults old) (faults new)

-- All of these lines were written, and the run ends as is said; or a write of them failed.
abbrev pub EndsWriting : {K : Type 0} → (K → Option (List ℕ)) → (K → ℕ) → Status → List ℕ → Status → K → K → Type 0
EndsWriting written faults said lines status old new =
    ((status ≡ said) × WritesAll written faults lines old new) ⊎ ((status ≡ WriteFault) × StopsWriting written faults lines old new)
