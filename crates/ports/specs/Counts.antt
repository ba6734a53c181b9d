-- How often the outside has failed: counts of 64 bits, which never fall.
use Rattle.std.specs.Prelude.{◌≡◌, ℕ, ◌+◌, ◌-◌, ◌^◌, ◌≤◌, min, Result, Ok, Err}
use Rattle.ports.specs.declared.faults.FetchFault.{FetchFault}
use Rattle.ports.specs.declared.faults.FetchFault.TheVariants as fetch
use Rattle.ports.specs.declared.faults.PutFault.{PutFault}
use Rattle.ports.specs.declared.faults.PutFault.TheVariants as put

-- one more, or the last count that 64 bits hold
abbrev pub counted : ℕ → ℕ
counted before = min (before + 1) (2 ^ 64 - 1)

-- the count rose, or stands at its last value
abbrev pub Rose : ℕ → ℕ → Type 0
Rose before now = counted before ≤ now

-- the count rose, or stands at its last value, and did not fall
abbrev pub Counted : ℕ → ℕ → Type 0
Counted before now = (before ≤ now) × Rose before now

-- the count of faults over a fetch: it rises where the fetch failed, and only there
abbrev pub FetchCounts : {T : Type 0} → ℕ → ℕ → Result T FetchFault → Type 0
FetchCounts before now (Ok x) = now ≡ before
FetchCounts before now (Err fetch.Failed) = Counted before now
FetchCounts before now (Err fetch.OutOfMemory) = now ≡ before

-- the count of faults over a put: it rises where the put failed, and only there
abbrev pub PutCounts : {T : Type 0} → ℕ → ℕ → Result T PutFault → Type 0
PutCounts before now (Ok x) = now ≡ before
PutCounts before now (Err put.Failed) = Counted before now
PutCounts before now (Err put.OutOfMemory) = now ≡ before

-- how often the sink ran out of memory, before and after a put: the count rises with such a result, and only there
abbrev pub MemoryCounts : {T : Type 0} → ℕ → ℕ → Result T PutFault → Type 0
MemoryCounts before now (Ok x) = now ≡ before
MemoryCounts before now (Err put.Failed) = now ≡ before
MemoryCounts before now (Err put.OutOfMemory) = Counted before now

-- the count of faults after a fetch that counts one by one
abbrev pub faults_after_fetch : {T : Type 0} → ℕ → Result T FetchFault → ℕ
faults_after_fetch before (Ok x) = before
faults_after_fetch before (Err fetch.Failed) = counted before
faults_after_fetch before (Err fetch.OutOfMemory) = before

-- the count of faults after a put that counts one by one
abbrev pub faults_after_put : {T : Type 0} → ℕ → Result T PutFault → ℕ
faults_after_put before (Ok x) = before
faults_after_put before (Err put.Failed) = counted before
faults_after_put before (Err put.OutOfMemory) = before
