mod Values
mod AsBox
