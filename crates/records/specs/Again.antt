-- A body that is read and written again gives the same bytes.
use Rattle.std.specs.Prelude.{◌≡◌, ℕ, ◌<◌, List, ◌++◌, length}
use Rattle.std.proofs.Common.{arith}
use Rattle.std.specs.List.{AllByRecursion}
use Rattle.fields.specs.Bytes.{four_at, four_of}
use Rattle.fields.proofs.Pieces.{two_piece, four_piece, four_last, one_piece, two_last}
use Rattle.records.specs.Headers.{header_in, header_bytes}
use Rattle.records.specs.Resources.{resource_in, resource_bytes}
use Rattle.records.specs.Applications.{application_in, application_bytes}
use Rattle.records.specs.Points.{point_in, point_bytes}
use Rattle.records.specs.Activities.{activity_in, activity_bytes}
use Rattle.records.specs.Edges.{edge_in, edge_bytes}
use Rattle.records.specs.Cells.{cell_in, cell_bytes}

module _ (xs : List ℕ) where
  pub header_again : length xs ≡ 6 → AllByRecursion (λ b. b < 256) xs → header_bytes (header_in xs) ≡ xs
  header_again e h = rw (four_last xs h 2 (omega arith)) (two_piece xs h 0 (omega arith))

  pub resource_again : length xs ≡ 18 → AllByRecursion (λ b. b < 256) xs → resource_bytes (resource_in xs) ≡ xs
  resource_again e h =
      rw (four_last xs h 14 (omega arith), four_piece xs h 10 (omega arith), four_piece xs h 6 (omega arith), four_piece xs h 2 (omega arith)) (two_piece xs h 0 (omega arith))

  -- two numbers of four bytes
  fours_again : length xs ≡ 8 → AllByRecursion (λ b. b < 256) xs → four_of (four_at xs 0) ++ four_of (four_at xs 4) ≡ xs
  fours_again e h = rw (four_last xs h 4 (omega arith)) (four_piece xs h 0 (omega arith))

  pub application_again : length xs ≡ 8 → AllByRecursion (λ b. b < 256) xs → application_bytes (application_in xs) ≡ xs
  application_again = fours_again

  pub point_again : length xs ≡ 8 → AllByRecursion (λ b. b < 256) xs → point_bytes (point_in xs) ≡ xs
  point_again = fours_again

  pub activity_again : length xs ≡ 12 → AllByRecursion (λ b. b < 256) xs → activity_bytes (activity_in xs) ≡ xs
  activity_again e h =
      rw (four_last xs h 8 (omega arith), four_piece xs h 4 (omega arith), one_piece xs 3 (omega arith), one_piece xs 2 (omega arith), one_piece xs 1 (omega arith)) (one_piece xs 0 (omega arith))

  pub edge_again : length xs ≡ 4 → AllByRecursion (λ b. b < 256) xs → edge_bytes (edge_in xs) ≡ xs
  edge_again e h = rw (two_last xs h 2 (omega arith)) (two_piece xs h 0 (omega arith))

  pub cell_again : length xs ≡ 7 → AllByRecursion (λ b. b < 256) xs → cell_bytes (cell_in xs) ≡ xs
  cell_again e h = rw (four_last xs h 3 (omega arith), one_piece xs 2 (omega arith)) (two_piece xs h 0 (omega arith))
