-- The options of the commands that read lines.
use Rattle.std.specs.Prelude.{ℕ, ◌==◌, ◌&&◌, Bool, false, None}
use Rattle.pyver_commands.specs.declared.sources.invalid_lines.InvalidLines.TheVariants as invalid
use Rattle.pyver_commands.specs.declared.sources.line_options.LineOptions.{LineOptions}

-- the options before the first word
abbrev pub no_line_options : LineOptions
no_line_options = record { invalid = invalid.Error; field = None; delimiter = 9; header = false }

-- the options of a command that has none of them, so that none leaves out an invalid line
abbrev pub bare_line_options : LineOptions
bare_line_options = record no_line_options { invalid = invalid.AlwaysError }

-- the line with this number is the header of its source: the first, if there is one
abbrev pub is_header : LineOptions → ℕ → Bool
is_header options number = options.header && (number == 1)
