mod Spreading
mod Checking
mod Bounding
mod Adding
mod Legible
