mod RunRows
mod CallRows
mod QuietRows
mod WholeRows
