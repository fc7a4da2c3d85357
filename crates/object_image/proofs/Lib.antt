mod Got
mod Put
mod Images
mod Objects
