mod Merging
mod Exact
mod DraftAlone
