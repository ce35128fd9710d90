-- What a reply prints, and how it ends, in words of bytes.
use Rattle.std.specs.Prelude.{◌≡◌, ℕ, List, [], ◌∷◌, ◌++◌, codes, string_bytes}
use Rattle.cli.specs.declared.output.Reply.{Reply}
use Rattle.cli.specs.declared.output.Status as statuses

-- the reply has these bytes for standard output, these for standard error, and this status
pub record Prints (reply : Reply) (printed noted : List ℕ) (ending : statuses.Status) : Type 0 where
  pub out : string_bytes reply.out ≡ printed
  pub told : string_bytes reply.told ≡ noted
  pub status : reply.status ≡ ending

-- the line that says on standard error what is wrong
abbrev pub error_line : List ℕ → List ℕ
error_line words = codes "error: " ++ words ++ 10 ∷ []

-- the line that says there of a file, or of standard input, by its name, why it could not be read
abbrev pub unread_line : List ℕ → List ℕ → List ℕ
unread_line name why = codes "error: " ++ name ++ (codes ": " ++ why ++ 10 ∷ [])
