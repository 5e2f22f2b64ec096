pub mod InPieces
