-- What is done with invalid lines, by the option `--invalid`.
use Rattle.std.specs.Prelude.{ℕ, ◌-◌, ◌==◌, List, [], ◌++◌, Option, Some, None, bytes_eq, codes, if◌then◌else◌}
use Rattle.pyver_commands.specs.Outcomes.{left_out_message, more_faults_message, skip_message}
use Rattle.pyver_commands.specs.declared.sources.invalid_lines.InvalidLines.{InvalidLines}
use Rattle.pyver_commands.specs.declared.sources.invalid_lines.InvalidLines.TheVariants as invalid

-- the value of `--invalid`: `error`, `skip` or `keep`
abbrev pub invalid_lines_of : List ℕ → Option InvalidLines
invalid_lines_of word =
    if bytes_eq word (codes "error") then Some invalid.Error
    else if bytes_eq word (codes "skip") then Some invalid.Skip
    else if bytes_eq word (codes "keep") then Some invalid.Keep
    else None

-- how many invalid lines get a message of their own
abbrev pub message_limit : InvalidLines → ℕ
message_limit invalid.Error = 20
message_limit invalid.AlwaysError = 20
message_limit invalid.Skip = 0
message_limit invalid.Keep = 0

-- the message after the last line, by the number of invalid lines
abbrev pub last_message : InvalidLines → ℕ → List ℕ
last_message invalid.Error count = more_faults_message (count - 20) ++ skip_message count
last_message invalid.AlwaysError count = more_faults_message (count - 20)
last_message invalid.Skip count = left_out_message count
last_message invalid.Keep count = []

-- the status by the number of invalid lines
abbrev pub lines_status : InvalidLines → ℕ → ℕ
lines_status invalid.Error count = if count == 0 then 0 else 2
lines_status invalid.AlwaysError count = if count == 0 then 0 else 2
lines_status invalid.Skip count = 0
lines_status invalid.Keep count = 0
