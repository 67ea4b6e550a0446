-- EXCHANGES: what a transcript has of one request.
use Rattle.std.specs.Prelude.{ℕ, List}

-- the bytes that were taken of the input, and those of the response
pub record Exchange : Type 0 where
  pub request : List ℕ
  pub response : List ℕ
