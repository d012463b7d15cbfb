-- A run that ends at the first report while its script is read.
use Rattle.std.specs.Prelude.{ℕ, Bool, true, false, if◌then◌else◌}
use Rattle.script_lines.specs.declared.strictness.Watch.{Watch}
use Rattle.script_lines.specs.declared.strictness.Watch.TheVariants.{Off, Silent, Reported, Over}

-- at the beginning of a run
abbrev pub watch_of : Bool → Watch
watch_of is_strict = if is_strict then Silent else Off

-- once something is reported
abbrev pub noted : Watch → Watch
noted Silent = Reported
noted watch = watch

-- once more is to be read
abbrev pub looked : Watch → Watch
looked Reported = Over
looked watch = watch

-- nothing is read once more was to be read after a report
abbrev pub is_over : Watch → Bool
is_over Over = true
is_over watch = false

-- the run has the status 1 then, and otherwise that of its program
abbrev pub status_after : Watch → ℕ → ℕ
status_after Over status = 1
status_after watch status = status
