-- What is said of a standard stream that failed.
use Rattle.std.specs.Prelude.{ℕ, ℤ, List, [], ◌++◌, ◌==◌, codes, Bool, false, Option, Some, None, option_map, unsigned_abs, if◌then◌else◌}
use Rattle.std.specs.Fmt.{decimal}
use Rattle.std.specs.Option.{option_map_or}
use Rattle.script_lines.specs.declared.failures.Failure.{Failure}
use Rattle.script_lines.specs.declared.failures.Stream.{Stream}
use Rattle.script_lines.specs.declared.failures.Stream.TheVariants.{Input, Output}

-- the operating system's number for an error, or 0
abbrev pub code_of : Option ℤ → ℕ
code_of code = option_map_or unsigned_abs code 0

-- a pipe whose reader has closed it
abbrev pub is_closed_pipe : Stream → ℕ → Bool
is_closed_pipe Input code = false
is_closed_pipe Output code = code == 32

abbrev pub is_of_reader : Failure → Bool
is_of_reader f = is_closed_pipe f.stream f.code

-- the failure of the input, by the number of its error, or else that of the output
abbrev pub failure_among : Option ℕ → Option ℕ → Option Failure
failure_among (Some code) output = Some (record { stream = Input; code = code })
failure_among None output = option_map (λ code. record { stream = Output; code = code }) output

abbrev pub stream_text : Stream → List ℕ
stream_text Input = codes "standard input can't be read"
stream_text Output = codes "standard output can't be written"

-- what is known of an error by its number
abbrev pub reason_known : ℕ → Option (List ℕ)
reason_known code =
    if code == 0 then Some (codes "it failed")
    else if code == 5 then Some (codes "input/output error")
    else if code == 9 then Some (codes "it isn't open")
    else if code == 13 then Some (codes "permission denied")
    else if code == 21 then Some (codes "it is a directory")
    else if code == 27 then Some (codes "the file is too large")
    else if code == 28 then Some (codes "no space is left on the device")
    else if code == 104 then Some (codes "the connection was reset")
    else if code == 122 then Some (codes "the disk quota is used up")
    else None

-- that, or the number
abbrev pub numbered : ℕ → Option (List ℕ) → List ℕ
numbered code (Some reason) = reason
numbered code None = codes "error " ++ decimal code ++ codes " of the operating system"

abbrev pub reason_text : ℕ → List ℕ
reason_text code = numbered code (reason_known code)

-- which stream failed, and why
abbrev pub failure_text : Failure → List ℕ
failure_text f = stream_text f.stream ++ codes ": " ++ reason_text f.code ++ codes "\n"

-- what is told of a failure, if there is one: nothing where the output's reader has closed its pipe
abbrev pub failure_told : Option Failure → List ℕ
failure_told None = []
failure_told (Some f) = if is_of_reader f then [] else failure_text f
