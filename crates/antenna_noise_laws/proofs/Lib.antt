mod InPieces
mod InPiecesMet
