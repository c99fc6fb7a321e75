mod GrowingRows
mod ArrowsByLine
mod RowsUnfold
mod PairArrows
mod StablePictures
