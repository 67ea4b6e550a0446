mod Lists
mod Tracing
mod Learning
mod Coming
mod Moving
mod Due
mod Standing
