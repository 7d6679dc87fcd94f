pub mod HexRuns
